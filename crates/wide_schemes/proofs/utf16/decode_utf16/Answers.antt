use Rattle.std.proofs.Common.{◌≡◌, ℕ, suc, ◌+◌, ◌-◌, ◌*◌, ◌/◌, ◌<◌, ◌≤◌, List, [], ◌++◌, Bool, true, false, length, length-drop, length-take, length-take-le, Option, Some, None, take, drop, sym, ◌∙◌, subst, arith, inl, inr, ap}
use Rattle.std.specs.Prelude.{IfNone, IfSome, IsTrue, min, slice_index}
use Rattle.std.proofs.lemmas.Bool.{cases_Bool, cases_lt}
use Rattle.std.proofs.lemmas.List.{nil_from_length, take-take}
use Rattle.wide_forms.specs.EncodingForm.{Utf16 as Utf16Form, IsHighSurrogate}
use Rattle.wide_forms.specs.Items.{IsFirstFault, IsWellFormed}
use Rattle.wide_forms.specs.Laws.Items.{IsCut}
use Rattle.wide_bytes.specs.Bytes.{units_in}
use Rattle.wide_bytes.specs.declared.order.BoM.{BoM}
use Rattle.wide_schemes.specs.Layouts.{BeginsWithFault, Decodes, IsIncomplete, MayFollow, StopsBefore}
use Rattle.wide_schemes.specs.declared.layout.Layout.TheVariants.{Utf16}
use Rattle.wide_schemes.specs.declared.progress.DecodeStop.TheVariants.{AtEnd, Incomplete, NoSpace}
use Rattle.wide_schemes.specs.declared.progress.DecodeStop.{DecodeStop}
use Rattle.wide_schemes.proofs.Utf16Chunks.{certain-decodes, fault-begins16, fault-decodes, fault-well, half-incomplete, high-incomplete, none-next, stored-units}
use Rattle.wide_schemes.proofs.ReadBytes.{units-bytes}
use Rattle.wide_schemes.proofs.utf16.decode_utf16.Goals as goal

-- What is known once the units are stored, of as many of them as are certain.
module _ (order : BoM) (bytes units : List ℕ) (n certain : ℕ) (last more_follow : Bool)
    (count : 2 * n ≤ length bytes) (stored : take (length (take (2 * n) bytes) / 2) units ≡ units_in order (take (2 * n) bytes)) (few : certain ≤ n)
    (follow : more_follow ≡ false → (last ≡ true) × (length bytes - 2 * n < 2))
    (given : (next : List ℕ) → (more_follow ≡ false → next ≡ []) → IsCut Utf16Form (take certain (take n units)) (drop certain (take n units) ++ next)) where
  filled : take n units ≡ take n (units_in order bytes)
  filled = stored-units order bytes units n count stored

  cut : (more : List ℕ) → MayFollow last more → IsCut Utf16Form (take certain (take n units)) (drop certain (take n units) ++ units_in order (drop (2 * n) bytes ++ more))
  cut more may = given (units_in order (drop (2 * n) bytes ++ more)) (none-next order bytes n last more_follow follow more may)

  all-decodes : (keeps : Bool) → (keeps ≡ false → IsWellFormed Utf16Form (take certain units)) → Decodes (Utf16 order) keeps false bytes last (2 * certain) (take certain units) false
  all-decodes keeps well =
      let same : take certain (take n units) ≡ take certain units = take-take certain n units few in
      subst (λ us. Decodes (Utf16 order) keeps false bytes last (2 * certain) us false) same (certain-decodes order bytes (take n units) n filled count last certain few cut keeps (λ k. subst (IsWellFormed Utf16Form) (sym same) (well k)))

  module _ (index item u : ℕ) (before : index < certain) (fault : IsFirstFault Utf16Form (take certain units) index item u) where
    at : IsFirstFault Utf16Form (take certain (take n units)) index item u
    at = subst (λ us. IsFirstFault Utf16Form us index item u) (sym (take-take certain n units few)) fault

    same-index : take index (take n units) ≡ take index units
    same-index = take-take index n units (omega (arith, before, few))

    some-decodes : (keeps : Bool) → Decodes (Utf16 order) keeps false bytes last (2 * index) (take index units) false
    some-decodes keeps = subst (λ us. Decodes (Utf16 order) keeps false bytes last (2 * index) us false) same-index (fault-decodes order bytes (take n units) n filled count last certain few cut index item u before at keeps)

    some-well : IsWellFormed Utf16Form (take index units)
    some-well = subst (IsWellFormed Utf16Form) same-index (fault-well order bytes (take n units) n filled count last certain few cut index item u before at)

    some-begins : BeginsWithFault (Utf16 order) false false (drop (2 * index) bytes) last u 2
    some-begins = fault-begins16 order bytes (take n units) n filled count last certain few cut index item u before at

-- Where a fault is found, surrogates are not kept.
not-kept : (keeps : Bool) (r : Option (ℕ × ℕ)) (fault : ℕ × ℕ) → (IsTrue keeps → r ≡ None) → r ≡ Some fault → keeps ≡ false
not-kept keeps r fault kept is = elim (cases_Bool keeps) [
  | inl yes' ↦ (let none = kept yes' in absurd cc)
  | inr no' ↦ no'
]

pub returns-in-Some-clause-items : goal.returns-in-Some-clause-items
returns-in-Some-clause-items c =
    let bytes = c.args.bytes.now in
    let units = c.fill_units.new.units in
    let certain = c.certain_len-certain in
    let within : 2 * c.min-count.result ≤ length bytes = omega (arith, c.min-count.ensures) in
    let few : certain.result ≤ c.min-count.result = omega (arith, certain.ensures.within, length-take c.min-count.result units) in
    let found = subst (λ r. IfSome r (λ fault. (item : ℕ) × IsFirstFault Utf16Form (take certain.result units) fault.0 item fault.1)) c.in-Some.is c.fault_in.ensures.some in
    let inside = subst (λ r. IfSome r (λ fault. fault.0 < length (take certain.result units))) c.in-Some.is c.fault_in.ensures.within in
    let before : c.in-Some.index < certain.result = omega (arith, inside, length-take certain.result units) in
    some-decodes c.args.order bytes units c.min-count.result certain.result c.args.is_last c.do_more_follow.result within c.fill_units.ensures few c.do_more_follow.ensures.none certain.ensures.cut c.in-Some.index found.0 c.in-Some.unit before found.1 c.args.keeps

pub returns-in-Some-clause-well_formed : goal.returns-in-Some-clause-well_formed
returns-in-Some-clause-well_formed c =
    let bytes = c.args.bytes.now in
    let units = c.fill_units.new.units in
    let certain = c.certain_len-certain in
    let within : 2 * c.min-count.result ≤ length bytes = omega (arith, c.min-count.ensures) in
    let few : certain.result ≤ c.min-count.result = omega (arith, certain.ensures.within, length-take c.min-count.result units) in
    let found = subst (λ r. IfSome r (λ fault. (item : ℕ) × IsFirstFault Utf16Form (take certain.result units) fault.0 item fault.1)) c.in-Some.is c.fault_in.ensures.some in
    let inside = subst (λ r. IfSome r (λ fault. fault.0 < length (take certain.result units))) c.in-Some.is c.fault_in.ensures.within in
    let before : c.in-Some.index < certain.result = omega (arith, inside, length-take certain.result units) in
    λ k. some-well c.args.order bytes units c.min-count.result certain.result c.args.is_last c.do_more_follow.result within c.fill_units.ensures few c.do_more_follow.ensures.none certain.ensures.cut c.in-Some.index found.0 c.in-Some.unit before found.1

pub returns-in-Some-clause-stop : goal.returns-in-Some-clause-stop
returns-in-Some-clause-stop c =
    let bytes = c.args.bytes.now in
    let units = c.fill_units.new.units in
    let certain = c.certain_len-certain in
    let within : 2 * c.min-count.result ≤ length bytes = omega (arith, c.min-count.ensures) in
    let few : certain.result ≤ c.min-count.result = omega (arith, certain.ensures.within, length-take c.min-count.result units) in
    let found = subst (λ r. IfSome r (λ fault. (item : ℕ) × IsFirstFault Utf16Form (take certain.result units) fault.0 item fault.1)) c.in-Some.is c.fault_in.ensures.some in
    let inside = subst (λ r. IfSome r (λ fault. fault.0 < length (take certain.result units))) c.in-Some.is c.fault_in.ensures.within in
    let before : c.in-Some.index < certain.result = omega (arith, inside, length-take certain.result units) in
    let begins = some-begins c.args.order bytes units c.min-count.result certain.result c.args.is_last c.do_more_follow.result within c.fill_units.ensures few c.do_more_follow.ensures.none certain.ensures.cut c.in-Some.index found.0 c.in-Some.unit before found.1 in
    let keeps : c.args.keeps ≡ false = not-kept c.args.keeps c.fault_in.result (c.in-Some.index, c.in-Some.unit) c.fault_in.ensures.kept c.in-Some.is in
    subst (λ k. BeginsWithFault (Utf16 c.args.order) k false (drop (2 * c.in-Some.index) bytes) c.args.is_last c.from.result 2) (sym keeps) (subst (λ u. BeginsWithFault (Utf16 c.args.order) false false (drop (2 * c.in-Some.index) bytes) c.args.is_last u 2) (sym c.from.ensures) begins)

pub returns-in-None-clause-items : goal.returns-in-None-clause-items
returns-in-None-clause-items c =
    let bytes = c.args.bytes.now in
    let units = c.fill_units.new.units in
    let certain = c.certain_len-certain in
    let within : 2 * c.min-count.result ≤ length bytes = omega (arith, c.min-count.ensures) in
    let few : certain.result ≤ c.min-count.result = omega (arith, certain.ensures.within, length-take c.min-count.result units) in
    let well : c.args.keeps ≡ false → IsWellFormed Utf16Form (take certain.result units) = λ keeps. subst (λ r. IfNone r (IsWellFormed Utf16Form (take certain.result units))) c.in-None.is (c.fault_in.ensures.none keeps) in
    all-decodes c.args.order bytes units c.min-count.result certain.result c.args.is_last c.do_more_follow.result within c.fill_units.ensures few c.do_more_follow.ensures.none certain.ensures.cut c.args.keeps well

-- Why decoding stopped, if it is at no fault.
module _ (order : BoM) (keeps last : Bool) (bytes units : List ℕ) (n certain : ℕ) (more_follow : Bool) (stop : DecodeStop) (least : n ≡ min (length bytes / 2) (length units)) (few : certain ≤ n)
    (stored : take (length (take (2 * n) bytes) / 2) units ≡ units_in order (take (2 * n) bytes))
    (follow : IsTrue more_follow → length bytes - 2 * n < 2 → last ≡ false)
    (more : certain < length (take n units) → IsTrue more_follow)
    (near : certain < length (take n units) → certain + 1 ≡ length (take n units))
    (high : certain < length (take n units) → IsHighSurrogate Utf16Form (slice_index (take n units) certain))
    (no_space : 2 ≤ length bytes - 2 * n → stop ≡ NoSpace)
    (incomplete : length bytes - 2 * n < 2 → 0 < length bytes - 2 * certain → stop ≡ Incomplete)
    (at_end : length bytes - 2 * n < 2 → length bytes - 2 * certain ≡ 0 → stop ≡ AtEnd) where
  left : length (drop (2 * certain) bytes) ≡ length bytes - 2 * certain
  left = length-drop (2 * certain) bytes

  count : length (take n units) ≡ n
  count = length-take-le n units (omega (arith, least))

  within : 2 * n ≤ length bytes
  within = omega (arith, least)

  is-incomplete : length bytes - 2 * n < 2 → 0 < length bytes - 2 * certain → IsIncomplete (Utf16 order) keeps false (drop (2 * certain) bytes) last
  is-incomplete short some = elim (cases_lt certain n) [
    | inl less ↦ (let open' : certain < length (take n units) = omega (arith, less, count) in let next' : n ≡ suc certain = omega (arith, near open', count) in
        high-incomplete order keeps bytes (take n units) certain last (subst (λ k. take n units ≡ take k (units_in order bytes)) next' (stored-units order bytes units n within stored)) (omega (arith, next', within)) (omega (arith, next', short)) (high open') (follow (more open') short))
    | inr all ↦ half-incomplete order keeps (drop (2 * certain) bytes) last (omega (arith, left, some, short, all, few))
  ]

  stops : StopsBefore (Utf16 order) keeps false (drop (2 * certain) bytes) last (length units - certain) stop
  stops = elim (cases_lt (length bytes - 2 * n) 2) [
    | inr unread ↦ (let full : length units - certain < 2 = elim (cases_lt certain n) [
      | inl less ↦ (let near' = near (omega (arith, less, count)) in omega (arith, least, unread, near', count))
      | inr all ↦ omega (arith, least, unread, all)
    ] in
        subst (StopsBefore (Utf16 order) keeps false (drop (2 * certain) bytes) last (length units - certain)) (sym (no_space unread)) (omega (arith, left, unread, few), full))
    | inl short ↦ elim (cases_lt 0 (length bytes - 2 * certain)) [
      | inl some ↦ subst (StopsBefore (Utf16 order) keeps false (drop (2 * certain) bytes) last (length units - certain)) (sym (incomplete short some)) (is-incomplete short some)
      | inr none ↦ (let zero' : length bytes - 2 * certain ≡ 0 = omega (arith, none) in
          subst (StopsBefore (Utf16 order) keeps false (drop (2 * certain) bytes) last (length units - certain)) (sym (at_end short zero')) (nil_from_length (drop (2 * certain) bytes) (left ∙ zero')))
    ]
  ]

pub returns-in-None-clause-stop : goal.returns-in-None-clause-stop
returns-in-None-clause-stop c =
    let certain = c.certain_len-certain in
    let few : certain.result ≤ c.min-count.result = omega (arith, certain.ensures.within, length-take c.min-count.result c.fill_units.new.units) in
    stops c.args.order c.args.keeps c.args.is_last c.args.bytes.now c.fill_units.new.units c.min-count.result certain.result c.do_more_follow.result c.stop_before.result (omega (arith, c.min-count.ensures, c.fill_units.auto.units)) few c.fill_units.ensures c.do_more_follow.ensures.some certain.ensures.more certain.ensures.last certain.ensures.high
    c.stop_before.ensures.no_space c.stop_before.ensures.incomplete c.stop_before.ensures.at_end

-- The units of a prefix of the bytes.
prefix-units : (order : BoM) (bytes units : List ℕ) (n c : ℕ) → 2 * n ≤ length bytes → take (length (take (2 * n) bytes) / 2) units ≡ units_in order (take (2 * n) bytes) → c ≤ n → take c units ≡ take c (units_in order bytes)
prefix-units order bytes units n c count stored few =
    sym (take-take c n units few) ∙ ap (take c) (stored-units order bytes units n count stored) ∙ take-take c n (units_in order bytes) few

pub returns-in-None-clause-bytes : goal.returns-in-None-clause-bytes
returns-in-None-clause-bytes c =
    let bytes = c.args.bytes.now in
    let units = c.fill_units.new.units in
    let certain = c.certain_len-certain in
    let within : 2 * c.min-count.result ≤ length bytes = omega (arith, c.min-count.ensures) in
    let few : certain.result ≤ c.min-count.result = omega (arith, certain.ensures.within, length-take c.min-count.result units) in
    units-bytes c.args.order bytes (take certain.result units) certain.result c.type_inv.bytes (omega (arith, few, within)) (prefix-units c.args.order bytes units c.min-count.result certain.result within c.fill_units.ensures few)

pub returns-in-Some-clause-bytes : goal.returns-in-Some-clause-bytes
returns-in-Some-clause-bytes c =
    let bytes = c.args.bytes.now in
    let units = c.fill_units.new.units in
    let certain = c.certain_len-certain in
    let within : 2 * c.min-count.result ≤ length bytes = omega (arith, c.min-count.ensures) in
    let inside = subst (λ r. IfSome r (λ fault. fault.0 < length (take certain.result units))) c.in-Some.is c.fault_in.ensures.within in
    let few : c.in-Some.index ≤ c.min-count.result = omega (arith, inside, length-take certain.result units, certain.ensures.within, length-take c.min-count.result units) in
    units-bytes c.args.order bytes (take c.in-Some.index units) c.in-Some.index c.type_inv.bytes (omega (arith, few, within)) (prefix-units c.args.order bytes units c.min-count.result c.in-Some.index within c.fill_units.ensures few)
