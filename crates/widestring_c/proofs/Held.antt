-- The converter that a state holds.
use Rattle.std.proofs.Common.{◌≡◌, Some, sym, ◌∙◌}
use Rattle.wide_convert.specs.Converting.{Converting}
use Rattle.wide_convert.specs.declared.reading.Reading.{Reading}
use Rattle.widestring_c.specs.Converters.{Holds}
use Rattle.widestring_c.specs.declared.state.WideConverter.{WideConverter}

some-same : {A : Type 0} (x y : A) → Some x ≡ Some y → x ≡ y
some-same x y e = cc

-- A state holds one converter.
pub Holds-unique : (state : WideConverter) (a b : Converting) → Holds state a → Holds state b → a ≡ b
Holds-unique state a b h k =
    let scheme = some-same a.reading.scheme b.reading.scheme (sym h.from ∙ k.from) in
    let policy = some-same a.reading.policy b.reading.policy (sym h.policy ∙ k.policy) in
    let layout = some-same a.reading.layout b.reading.layout (sym h.layout ∙ k.layout) in
    let to = some-same a.to b.to (sym h.to ∙ k.to) in
    let keeps : a.reading.keeps ≡ b.reading.keeps = sym h.keeps ∙ k.keeps in
    let after_high : a.reading.after_high ≡ b.reading.after_high = sym h.after_high ∙ k.after_high in
    let after_fault : a.reading.after_fault ≡ b.reading.after_fault = sym h.after_fault ∙ k.after_fault in
    let mark : a.bom ≡ b.bom = sym h.mark ∙ k.mark in
    let unread : a.reading.unread ≡ b.reading.unread = sym h.unread ∙ k.unread in
    let kept : a.reading.unread_len ≡ b.reading.unread_len = sym h.kept ∙ k.kept in
    let bom : a.reading.bom ≡ b.reading.bom = sym h.bom_length ∙ k.bom_length in
    let position : a.reading.position ≡ b.reading.position = sym h.position ∙ k.position in
    let reading : a.reading ≡ b.reading = same_readings a.reading b.reading scheme keeps policy layout after_high after_fault unread kept bom position in
    same_converters a b reading to mark
  where
    same_readings : (r s : Reading) → r.scheme ≡ s.scheme → r.keeps ≡ s.keeps → r.policy ≡ s.policy → r.layout ≡ s.layout → r.after_high ≡ s.after_high → r.after_fault ≡ s.after_fault → r.unread ≡ s.unread → r.unread_len ≡ s.unread_len → r.bom ≡ s.bom → r.position ≡ s.position → r ≡ s
    same_readings r s a b c d e f g h i j =
        let same : record { scheme = r.scheme; keeps = r.keeps; policy = r.policy; layout = r.layout; after_high = r.after_high; after_fault = r.after_fault; unread = r.unread; unread_len = r.unread_len; bom = r.bom; position = r.position } ≡ record { scheme = s.scheme; keeps = s.keeps; policy = s.policy; layout = s.layout; after_high = s.after_high; after_fault = s.after_fault; unread = s.unread; unread_len = s.unread_len; bom = s.bom; position = s.position } = cc in
        same

    same_converters : (x y : Converting) → x.reading ≡ y.reading → x.to ≡ y.to → x.bom ≡ y.bom → x ≡ y
    same_converters x y a b c = let same : record { reading = x.reading; to = x.to; bom = x.bom } ≡ record { reading = y.reading; to = y.to; bom = y.bom } = cc in same
