-- Lines that are written one after another.
use Rattle.std.proofs.Common.{◌≡◌, ℕ, ◌+◌, ◌<◌, ◌∙◌, List, [], ◌∷◌, ◌++◌, map, take, length, get_or, ap, sym, encode_utf8}
use Rattle.std.specs.Char.Escape.{escape_default}
use Rattle.std.specs.List.{flat_map}
use Rattle.std.proofs.lemmas.List.{take_more, map-append, append-nil, append_assoc}
use Rattle.std.proofs.lemmas.List.Concat.{flat_map-append}
use Rattle.wide_forms.specs.Utf8.{utf8, utf8_bytes}
use Rattle.wide_forms.specs.Laws.Utf8.{utf8_bytes-encode_utf8}
use Rattle.widetext_requests.specs.Lines.{escaped}

-- With one more element, what is written for it is after what was written before, if writing distributes over
-- concatenation.
pub more_of : {X : Type 0} (written : List X → List ℕ) (joins : (a b : List X) → written (a ++ b) ≡ written a ++ written b) (xs : List X) (i : ℕ) (d : X) (before old new : List ℕ) → i < length xs
    → old ≡ before ++ written (take i xs) → new ≡ old ++ written (get_or xs i d ∷ []) → new ≡ before ++ written (take (i + 1) xs)
more_of written joins xs i d before old new below so_far e =
    e ∙ ap (λ bs. bs ++ written (get_or xs i d ∷ [])) so_far ∙ append_assoc before (written (take i xs)) (written (get_or xs i d ∷ []))
    ∙ ap (λ bs. before ++ bs) (sym (ap written (take_more xs i d below) ∙ joins (take i xs) (get_or xs i d ∷ [])))

pub line_more : {X : Type 0} (line : X → List ℕ) (xs : List X) (i : ℕ) (d : X) (before old new : List ℕ) → i < length xs
    → old ≡ before ++ flat_map line (take i xs) → new ≡ old ++ line (get_or xs i d) → new ≡ before ++ flat_map line (take (i + 1) xs)
line_more line xs i d before old new below so_far e =
    more_of (flat_map line) (flat_map-append line) xs i d before old new below so_far (e ∙ ap (λ bs. old ++ bs) (sym (append-nil (line (get_or xs i d)))))

pub read_more : {X Y : Type 0} (line : Y → List ℕ) (read : X → Y) (xs : List X) (i : ℕ) (d : X) (before old new : List ℕ) → i < length xs
    → old ≡ before ++ flat_map line (map read (take i xs)) → new ≡ old ++ line (read (get_or xs i d)) → new ≡ before ++ flat_map line (map read (take (i + 1) xs))
read_more line read xs i d before old new below so_far e =
    more_of (λ ys. flat_map line (map read ys)) (λ a b. ap (flat_map line) (map-append read a b) ∙ flat_map-append line (map read a) (map read b)) xs i d before old new below so_far
    (e ∙ ap (λ bs. old ++ bs) (sym (append-nil (line (read (get_or xs i d))))))

-- The escapes of a concatenation are the escapes of both lists.
pub escaped-join : (a b : List ℕ) → escaped (a ++ b) ≡ escaped a ++ escaped b
escaped-join a b = ap utf8 (flat_map-append escape_default a b) ∙ flat_map-append utf8_bytes (flat_map escape_default a) (flat_map escape_default b)

-- One more character of an escape.
pub escape_more : (old new whole left xs : List ℕ) (x : ℕ) → old ++ utf8 left ≡ whole → left ≡ x ∷ xs → new ≡ old ++ encode_utf8 x → new ++ utf8 xs ≡ whole
escape_more old new whole left xs x so_far first e =
    ap (λ bs. bs ++ utf8 xs) e ∙ append_assoc old (encode_utf8 x) (utf8 xs) ∙ ap (λ bs. old ++ (bs ++ utf8 xs)) (sym (utf8_bytes-encode_utf8 x)) ∙ ap (λ l. old ++ utf8 l) (sym first) ∙ so_far
