-- What storing the bytes of a unit after those of the units before it does to a list.
use Rattle.std.proofs.Common.{◌≡◌, ℕ, suc, ◌+◌, ◌*◌, ◌<◌, ◌≤◌, List, [], ◌∷◌, ◌++◌, length, get_or, take, drop, set, sym, ap, ◌∙◌, arith}
use Rattle.std.proofs.Math.Seq.{take-suc}
use Rattle.std.proofs.lemmas.List.{append-nil, drop-set-lt, drop-drop}
use Rattle.std.proofs.lemmas.List.Concat.{flat_map-append}
use Rattle.std.specs.List.{flat_map}
use Rattle.wide_utf16_to_utf8.proofs.Stores.{stored_two, stored_four}

-- The bytes of the first units are stored, and the bytes after them are unchanged.
pub record AreStored (f : ℕ → List ℕ) (width : ℕ) (us old new : List ℕ) (k : ℕ) : Type 0 where
  pub prefix : take (width * k) new ≡ flat_map f (take k us)
  pub beyond : drop (width * k) new ≡ drop (width * k) old

-- If the bytes of one more unit are stored, the bytes of one unit more are stored.
next-unit : (f : ℕ → List ℕ) (width : ℕ) (us old xs ys bytes : List ℕ) (k : ℕ) → k < length us → AreStored f width us old xs k → bytes ≡ f (get_or us k 0)
    → take (width * k + width) ys ≡ take (width * k) xs ++ bytes → drop (width * k + width) ys ≡ drop (width * k + width) xs → AreStored f width us old ys (k + 1)
next-unit f width us old xs ys bytes k some before is stored compressed =
    let next : width * (k + 1) ≡ width * k + width = omega arith in
    let longer : k + 1 ≡ suc k = omega arith in
    let one : flat_map f (get_or us k 0 ∷ []) ≡ bytes = append-nil (f (get_or us k 0)) ∙ sym is in
    let split : flat_map f (take (k + 1) us) ≡ flat_map f (take k us) ++ bytes =
    ap (λ n. flat_map f (take n us)) longer ∙ ap (flat_map f) (take-suc us k 0 some) ∙ flat_map-append f (take k us) (get_or us k 0 ∷ []) ∙ ap (λ bs. flat_map f (take k us) ++ bs) one in
    let same : drop (width * k + width) xs ≡ drop (width * k + width) old = sym (drop-drop width (width * k) xs) ∙ ap (drop width) before.beyond ∙ drop-drop width (width * k) old in
    record {
      prefix = ap (λ n. take n ys) next ∙ stored ∙ ap (λ bs. bs ++ bytes) before.prefix ∙ sym split;
      beyond = ap (λ n. drop n ys) next ∙ compressed ∙ same ∙ ap (λ n. drop n old) (sym next);
    }

module _ (f : ℕ → List ℕ) (us old xs : List ℕ) (k : ℕ) (some : k < length us) where
  -- If the two bytes of one more unit are stored, the bytes of one unit more are stored.
  pub stored-two : (a b : ℕ) → 2 * length us ≤ length xs → AreStored f 2 us old xs k → a ∷ b ∷ [] ≡ f (get_or us k 0) → AreStored f 2 us old (set (set xs (2 * k) a) (2 * k + 1) b) (k + 1)
  stored-two a b space before is =
      let at = 2 * k in
      let compressed = drop-set-lt (at + 2) (set xs at a) (at + 1) b (omega arith) ∙ drop-set-lt (at + 2) xs at a (omega arith) in
      next-unit f 2 us old xs (set (set xs at a) (at + 1) b) (a ∷ b ∷ []) k some before is (stored_two xs at a b (omega arith)) compressed

  -- If the four bytes of one more unit are stored, the bytes of one unit more are stored.
  pub stored-four : (a b d e : ℕ) → 4 * length us ≤ length xs → AreStored f 4 us old xs k → a ∷ b ∷ d ∷ e ∷ [] ≡ f (get_or us k 0)
      → AreStored f 4 us old (set (set (set (set xs (4 * k) a) (4 * k + 1) b) (4 * k + 2) d) (4 * k + 3) e) (k + 1)
  stored-four a b d e space before is =
      let at = 4 * k in
      let one = set xs at a in
      let two = set one (at + 1) b in
      let three = set two (at + 2) d in
      let compressed = drop-set-lt (at + 4) three (at + 3) e (omega arith) ∙ drop-set-lt (at + 4) two (at + 2) d (omega arith) ∙ drop-set-lt (at + 4) one (at + 1) b (omega arith) ∙ drop-set-lt (at + 4) xs at a (omega arith) in
      next-unit f 4 us old xs (set three (at + 3) e) (a ∷ b ∷ d ∷ e ∷ []) k some before is (stored_four xs at a b d e (omega arith)) compressed
