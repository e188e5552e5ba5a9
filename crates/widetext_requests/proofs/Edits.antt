-- Edits of arguments, one after another.
use Rattle.std.proofs.Common.{◌≡◌, ℕ, ◌+◌, ◌<◌, List, [], ◌∷◌, ◌++◌, take, length, get_or, ap, sym, ◌∙◌, encode_utf8, encode_utf8_all}
use Rattle.std.proofs.lemmas.List.{take_more, append-nil, append_assoc}
use Rattle.std.proofs.lemmas.Str.{encodes-append}
use Rattle.wide_edit.specs.declared.edits.Edit.{Edit}
use Rattle.wide_edit.specs.declared.edits.Edit.TheVariants.{Push, PushStr, Pop, Truncate, Insert, InsertStr, Remove, Retain, Drain, Replace, SplitOff, Clear}
use Rattle.widetext_requests.specs.EditArguments.{AreEach, IsNamed, NamesEdit}

module _ {X Y : Type 0} (R : X → Y → Type 0) where
  each_more : (xs : List X) (ys : List Y) (x : X) (y : Y) → AreEach R xs ys → R x y → AreEach R (xs ++ x ∷ []) (ys ++ y ∷ [])
  each_more [] [] x y are is = (is, tt)
  each_more [] (b ∷ ys) x y are is = absurd are
  each_more (a ∷ xs) [] x y are is = absurd are
  each_more (a ∷ xs) (b ∷ ys) x y are is = (are.0, each_more xs ys x y are.1 is)

  pub one_each_more : (xs : List X) (i : ℕ) (d : X) (ys : List Y) (y : Y) → i < length xs → AreEach R (take i xs) ys → R (get_or xs i d) y → AreEach R (take (i + 1) xs) (ys ++ y ∷ [])
  one_each_more xs i d ys y below are is = rw (take_more xs i d below) (each_more (take i xs) ys (get_or xs i d) y are is)

-- An argument of a name and values names their edit.
pub names_edit : (bytes name values : List ℕ) (found : Edit) → bytes ≡ name ++ 61 ∷ values → IsNamed name values found → NamesEdit bytes found
names_edit bytes name values (Push c) e is = (name, values, e, is)
names_edit bytes name values (PushStr t) e is = (name, values, e, is)
names_edit bytes name values Pop e is = absurd is.1
names_edit bytes name values (Truncate m) e is = (name, values, e, is)
names_edit bytes name values (Insert i c) e is = (name, values, e, is)
names_edit bytes name values (InsertStr i t) e is = (name, values, e, is)
names_edit bytes name values (Remove i) e is = (name, values, e, is)
names_edit bytes name values (Retain keep) e is = (name, values, e, is)
names_edit bytes name values (Drain a b) e is = (name, values, e, is)
names_edit bytes name values (Replace a b t) e is = (name, values, e, is)
names_edit bytes name values (SplitOff i) e is = (name, values, e, is)
names_edit bytes name values Clear e is = absurd is.1

-- One more character of those to retain.
pub keeps_more : (keep new rest rest' whole : List ℕ) (c : ℕ) → encode_utf8_all keep ++ rest ≡ whole → rest ≡ encode_utf8 c ++ rest' → new ≡ keep ++ c ∷ [] → encode_utf8_all new ++ rest' ≡ whole
keeps_more keep new rest rest' whole c so_far step e =
    ap (λ ks. encode_utf8_all ks ++ rest') e ∙ ap (λ bs. bs ++ rest') (encodes-append keep (c ∷ []) ∙ ap (λ bs. encode_utf8_all keep ++ bs) (append-nil (encode_utf8 c)))
    ∙ append_assoc (encode_utf8_all keep) (encode_utf8 c) rest' ∙ ap (λ bs. encode_utf8_all keep ++ bs) (sym step) ∙ so_far
