-- Lossy text of bytes, item by item.
use Rattle.std.proofs.Common.{◌≡◌, inl, inr, ℕ, zero, suc, ◌+◌, ◌-◌, ◌<◌, ◌≤◌, List, [], ◌∷◌, ◌++◌, Bool, true, false, length, get_or, map, take, drop, refl, sym, ap, ◌∙◌, arith, append_assoc, length-append}
use Rattle.std.specs.Prelude.{Some, None}
use Rattle.std.specs.Char.{encode_utf8}
use Rattle.std.specs.Str.{IsUtf8, encode_utf8_all}
use Rattle.std.specs.Str.{chars as str_chars}
use Rattle.std.proofs.lemmas.Bool.{cases_lt}
use Rattle.std.proofs.lemmas.List.{append-nil, drop-drop, length-take-le}
use Rattle.std.proofs.lemmas.Str.{chars_from_encodes, len_utf8_bounds, length-encode}
use Rattle.std.proofs.lemmas.List.Concat.{flat_map-append}
use Rattle.wide_forms.specs.EncodingForm.{EncodingForm, code_units, encode}
use Rattle.wide_forms.specs.Lossy.{ends_in_fault, lossy_after, replacement}
use Rattle.wide_forms.specs.Segmentation.{Char, Fault}
use Rattle.wide_forms.specs.Laws.Policies.{ends_in_fault-append, lossy_after-append, lossy_after-chars, lossy_after-dropped, lossy_after-none_left, lossy_after-replaced}
use Rattle.wide_forms.specs.declared.policy.Policy.{Policy}
use Rattle.wide_conversions.specs.Utf8Items.{BeginsWith, IsLossyPrefix, utf8_items}
use Rattle.wide_conversions.proofs.FirstItems.{begins-ascii}
use Rattle.wide_from_utf8.proofs.PrefixUnits.{beyond-is}
use Rattle.wide_conversions.proofs.PrefixTexts.{utf8_items-prefix}
use Rattle.wide_utf16_to_utf8.proofs.UnitEncodings.{one_unit-plain}

-- ASCII characters are their own items and units.
items-ascii : (n : ℕ) (bs : List ℕ) → n ≤ length bs → ((k : ℕ) → k < n → get_or bs k 0 < 0x80) → utf8_items bs ≡ map Char (take n bs) ++ utf8_items (drop n bs)
items-ascii zero bs within ascii = refl
items-ascii (suc n) [] within ascii = absurd (omega arith)
items-ascii (suc n) (b ∷ bs) within ascii = begins-ascii (b ∷ bs) (omega arith) (ascii 0 (omega arith)) ∙ ap (λ is. Char b ∷ is) (items-ascii n bs (omega arith) (λ k before. ascii (suc k) (omega arith)))

encode-ascii : (form : EncodingForm) (n : ℕ) (bs : List ℕ) → ((k : ℕ) → k < n → get_or bs k 0 < 0x80) → encode form (take n bs) ≡ take n bs
encode-ascii form zero bs ascii = refl
encode-ascii form (suc n) [] ascii = refl
encode-ascii form (suc n) (b ∷ bs) ascii =
    let low : b < 0x80 = ascii 0 (omega arith) in
    ap (λ us. us ++ encode form (take n bs)) (one_unit-plain form b (omega arith)) ∙ ap (λ us. b ∷ us) (encode-ascii form n bs (λ k before. ascii (suc k) (omega arith)))

pub ends-characters : (cs : List ℕ) → ends_in_fault false (map Char cs) ≡ false
ends-characters [] = refl
ends-characters (c ∷ cs) = ends-characters cs

ends-some : (after : Bool) (n : ℕ) (bs : List ℕ) → 0 < n → n ≤ length bs → ends_in_fault after (map Char (take n bs)) ≡ false
ends-some after zero bs some within = absurd (omega arith)
ends-some after (suc n) [] some within = absurd (omega arith)
ends-some after (suc n) (b ∷ bs) some within = ends-characters (take n bs)

module _ (form : EncodingForm) (policy : Policy) where
  encode-append : (cs ds : List ℕ) → encode form (cs ++ ds) ≡ encode form cs ++ encode form ds
  encode-append cs ds = flat_map-append (code_units form) cs ds

  -- No bytes have no lossy text.
  pub lossy-none : (bs us : List ℕ) (after : Bool) → IsLossyPrefix form policy bs 0 after after us us
  lossy-none bs us after = record { prefix = []; items = refl; units = sym (append-nil us) ∙ ap (λ cs. us ++ encode form cs) (sym (lossy_after-none_left policy after)); flag = refl }

  -- The lossy text of a prefix, and that of a prefix of the rest, are the lossy text of both.
  pub lossy-then : (bs x y z : List ℕ) (n m : ℕ) (a b c : Bool) → IsLossyPrefix form policy bs n a b x y → IsLossyPrefix form policy (take (length bs - n) (drop n bs)) m b c y z → IsLossyPrefix form policy bs (n + m) a c x z
  lossy-then bs x y z n m a b c prefix back =
      let beyond = beyond-is bs n in
      let rest : drop m (take (length bs - n) (drop n bs)) ≡ drop (n + m) bs = ap (drop m) beyond ∙ drop-drop m n bs in
      let first = lossy_after policy a prefix.prefix in
      let joined : lossy_after policy a (prefix.prefix ++ back.prefix) ≡ first ++ lossy_after policy b back.prefix = lossy_after-append policy a prefix.prefix back.prefix ∙ ap (λ f. first ++ lossy_after policy f back.prefix) (sym prefix.flag) in
      record {
        prefix = prefix.prefix ++ back.prefix;
        items = prefix.items ∙ ap (λ is. prefix.prefix ++ is) (ap utf8_items (sym beyond) ∙ back.items ∙ ap (λ ds. back.prefix ++ utf8_items ds) rest) ∙ sym (append_assoc prefix.prefix back.prefix (utf8_items (drop (n + m) bs)));
        units = back.units ∙ ap (λ us. us ++ encode form (lossy_after policy b back.prefix)) prefix.units ∙ append_assoc x (encode form first) (encode form (lossy_after policy b back.prefix))
            ∙ ap (λ us. x ++ us) (sym (encode-append first (lossy_after policy b back.prefix)) ∙ ap (encode form) (sym joined));
        flag = back.flag ∙ ap (λ f. ends_in_fault f back.prefix) prefix.flag ∙ sym (ends_in_fault-append a prefix.prefix back.prefix);
      }

  -- The lossy text of the rest can be computed separately.
  pub lossy-rest : (bs old new : List ℕ) (n : ℕ) (a b : Bool) → IsLossyPrefix form policy bs n a b old new → old ++ encode form (lossy_after policy a (utf8_items bs)) ≡ new ++ encode form (lossy_after policy b (utf8_items (drop n bs)))
  lossy-rest bs old new n a b prefix =
      let text = lossy_after policy a prefix.prefix in
      let beyond = utf8_items (drop n bs) in
      let rest = lossy_after policy b beyond in
      ap (λ is. old ++ encode form (lossy_after policy a is)) prefix.items ∙ ap (λ cs. old ++ encode form cs) (lossy_after-append policy a prefix.prefix beyond ∙ ap (λ f. text ++ lossy_after policy f beyond) (sym prefix.flag))
      ∙ ap (λ us. old ++ us) (encode-append text rest) ∙ sym (append_assoc old (encode form text) (encode form rest)) ∙ ap (λ us. us ++ encode form rest) (sym prefix.units)

  -- A character that the bytes begin with is its own lossy text.
  pub lossy-character : (bs old new : List ℕ) (n c : ℕ) (after : Bool) → BeginsWith bs (Char c) n → new ≡ old ++ code_units form c → IsLossyPrefix form policy bs n after false old new
  lossy-character bs old new n c after begins more = record {
    prefix = Char c ∷ [];
    items = begins;
    units = more ∙ ap (λ us. old ++ us) (sym (append-nil (code_units form c)) ∙ ap (encode form) (sym (lossy_after-chars policy after (c ∷ []))));
    flag = refl;
  }

  -- If the policy writes a character for a fault that the bytes begin with, that is its lossy text.
  pub lossy-replaced : (bs old new : List ℕ) (n u c : ℕ) (after : Bool) → BeginsWith bs (Fault u) n → replacement policy after ≡ Some c → new ≡ old ++ code_units form c → IsLossyPrefix form policy bs n after true old new
  lossy-replaced bs old new n u c after begins by more = record {
    prefix = Fault u ∷ [];
    items = begins;
    units = more ∙ ap (λ us. old ++ us) (sym (append-nil (code_units form c)) ∙ ap (encode form) (sym (lossy_after-replaced policy after u c [] by ∙ ap (λ ds. c ∷ ds) (lossy_after-none_left policy true))));
    flag = refl;
  }

  -- If the policy writes nothing for a fault that the bytes begin with, it has no lossy text.
  pub lossy-dropped : (bs old new : List ℕ) (n u : ℕ) (after : Bool) → BeginsWith bs (Fault u) n → replacement policy after ≡ None → new ≡ old → IsLossyPrefix form policy bs n after true old new
  lossy-dropped bs old new n u after begins by more = record {
    prefix = Fault u ∷ [];
    items = begins;
    units = more ∙ sym (append-nil old) ∙ ap (λ cs. old ++ encode form cs) (sym (lossy_after-dropped policy after u [] by ∙ lossy_after-none_left policy true));
    flag = refl;
  }

  -- ASCII bytes that the bytes begin with are their own lossy text.
  pub lossy-ascii : (bs old new : List ℕ) (n : ℕ) (after : Bool) → 0 < n → n ≤ length bs → ((k : ℕ) → k < n → get_or bs k 0 < 0x80) → new ≡ old ++ take n bs → IsLossyPrefix form policy bs n after false old new
  lossy-ascii bs old new n after some within ascii more = record {
    prefix = map Char (take n bs);
    items = items-ascii n bs within ascii;
    units = more ∙ ap (λ us. old ++ us) (sym (encode-ascii form n bs ascii) ∙ ap (encode form) (sym (lossy_after-chars policy after (take n bs))));
    flag = sym (ends-some after n bs some within);
  }

-- The lossy text of UTF-8 and of the bytes after it, and whether a fault was read last.
ends-encoded : (after : Bool) (cs prefix : List ℕ) → encode_utf8_all cs ≡ prefix → (length prefix ≡ 0 → ends_in_fault after (map Char cs) ≡ after) × (1 ≤ length prefix → ends_in_fault after (map Char cs) ≡ false)
ends-encoded after [] prefix is = (λ none. refl, λ some. absurd (omega (arith, some, ap length is)))
ends-encoded after (c ∷ cs) prefix is =
    (λ none. absurd (omega (arith, none, ap length is, length-append (encode_utf8 c) (encode_utf8_all cs), length-encode c, (len_utf8_bounds c).0)), λ some. ends-characters cs)

pub lossy-after_text : (policy : Policy) (bs : List ℕ) (n : ℕ) (after flag : Bool) → n ≤ length bs → IsUtf8 (take n bs) → (n ≡ 0 → flag ≡ after) → (1 ≤ n → flag ≡ false)
    → lossy_after policy after (utf8_items bs) ≡ str_chars (take n bs) ++ lossy_after policy flag (utf8_items (drop n bs))
lossy-after_text policy bs n after flag within text same other =
    let prefix = take n bs in
    let cs = str_chars prefix in
    let rest = utf8_items (drop n bs) in
    let long : length prefix ≡ n = length-take-le n bs within in
    let ends = ends-encoded after cs prefix (ap encode_utf8_all (sym (chars_from_encodes text.0 prefix text text.1.1)) ∙ text.1.1) in
    let last : ends_in_fault after (map Char cs) ≡ flag = elim (cases_lt 0 n) [
      | inl some ↦ ends.1 (omega (arith, some, long)) ∙ sym (other some)
      | inr none ↦ ends.0 (omega (arith, none, long)) ∙ sym (same (omega arith))
    ] in
    ap (lossy_after policy after) (utf8_items-prefix bs n text) ∙ lossy_after-append policy after (map Char cs) rest ∙ ap (λ ds. ds ++ lossy_after policy (ends_in_fault after (map Char cs)) rest) (lossy_after-chars policy after cs) ∙ ap (λ f. cs ++ lossy_after policy f rest) last
