-- Lossy decoders under a policy: the items of a fused decoder, runs of faults, and what a call yields.
use Rattle.std.proofs.Common.{◌≡◌, ℕ, true, false, Bool, cond, List, [], ◌∷◌, ◌++◌, Option, Some, None, Result, Ok, Err, inl, inr, refl, sym, ap, ◌∙◌, append_assoc}
use Rattle.std.specs.Prelude.{is_none, is_some, map, MatchOption}
use Rattle.std.specs.Option.{option_to_list}
use Rattle.std.specs.Iterator.{YieldsFirstBy, YieldsLastBy}
use Rattle.std.proofs.lemmas.List.{map-append, append-nil}
use Rattle.wide_forms.specs.Segmentation.{Item, Char, Fault}
use Rattle.wide_unit.specs.Unit.{item_of}
use Rattle.wide_forms.specs.Lossy.{lossy_by, lossy_after, ends_in_fault, replacement}
use Rattle.wide_forms.specs.Laws.Policies.{lossy_by-at_char, lossy_after-append, lossy_after-char, lossy_after-dropped, lossy_after-none, lossy_after-none_left, lossy_after-replaced, replacement-drops_run, replacement-is}
use Rattle.wide_forms.specs.declared.policy.Policy.{Policy}
use Rattle.wide_iter.specs.declared.source.Source.{Source}
use Rattle.wide_iter.specs.Source.{left_in_source, source_steps}
use Rattle.wide_iter.specs.LossyWith.{GivesFirstItem, GivesLastItem, TakesFirstCharacter, TakesLastCharacter}
use Rattle.wide_iter.proofs.Ended.{by_end, left_where}

module _ {A B : Type 0} (view : A → B) (whole us ts : List B) (b : Bool) (e : whole ≡ us) where
  -- `whole` is what was left, and the source has ended after a call that returned `None`.
  asked_first : (r : Option A) → b ≡ is_none r → MatchOption r ((us ≡ []) × (ts ≡ [])) (λ x. us ≡ view x ∷ ts) → MatchOption r ((whole ≡ []) × (cond b [] ts ≡ [])) (λ x. whole ≡ view x ∷ cond b [] ts)
  asked_first None f h = (e ∙ h.0, ap (λ d. cond d [] ts) f)
  asked_first (Some x) f h = e ∙ h ∙ ap (λ d. view x ∷ cond d [] ts) (sym f)

  asked_last : (r : Option A) → b ≡ is_none r → MatchOption r ((us ≡ []) × (ts ≡ [])) (λ x. us ≡ ts ++ view x ∷ []) → MatchOption r ((whole ≡ []) × (cond b [] ts ≡ [])) (λ x. whole ≡ cond b [] ts ++ view x ∷ [])
  asked_last None f h = (e ∙ h.0, ap (λ d. cond d [] ts) f)
  asked_last (Some x) f h = e ∙ h ∙ ap (λ d. cond d [] ts ++ view x ∷ []) (sym f)

module _ {D E : Type 0} {steps : D → Option (Result ℕ E) → D → Type 0} where
  pub item_first : (number : E → ℕ) (rest : D → List Item) → GivesFirstItem steps number rest → (s t : Source D) (r : Option (Result ℕ E)) → source_steps steps s r t → YieldsFirstBy (item_of number) (left_in_source rest) s r t
  item_first number rest reports s t r h = elim (by_end s.ended h) [
    | inl done ↦ (let none = left_where rest s true done.0 in rw done.1.0 (none, ap (left_in_source rest) done.1.1 ∙ none))
    | inr more ↦ asked_first (item_of number) _ _ _ _ (left_where rest s false more.0) r more.1.1 (reports.at s.inner r t.inner more.1.0)
  ]

  pub item_last : (number : E → ℕ) (rest : D → List Item) → GivesLastItem steps number rest → (s t : Source D) (r : Option (Result ℕ E)) → source_steps steps s r t → YieldsLastBy (item_of number) (left_in_source rest) s r t
  item_last number rest reports s t r h = elim (by_end s.ended h) [
    | inl done ↦ (let none = left_where rest s true done.0 in rw done.1.0 (none, ap (left_in_source rest) done.1.1 ∙ none))
    | inr more ↦ asked_last (item_of number) _ _ _ _ (left_where rest s false more.0) r more.1.1 (reports.at s.inner r t.inner more.1.0)
  ]

module _ {D E : Type 0} (steps : D → Option (Result ℕ E) → D → Type 0) (s t : Source D) where
  -- A run of faults was read from the front.
  pub record PassedFirst : Type 0 where
    pub at : (number : E → ℕ) (rest : D → List Item) → GivesFirstItem steps number rest → (run : List ℕ) × (left_in_source rest s ≡ map Fault run ++ left_in_source rest t)

  -- A run of faults was read from the back.
  pub record PassedLast : Type 0 where
    pub at : (number : E → ℕ) (rest : D → List Item) → GivesLastItem steps number rest → (run : List ℕ) × (left_in_source rest s ≡ left_in_source rest t ++ map Fault run)

module _ {D E : Type 0} {steps : D → Option (Result ℕ E) → D → Type 0} (s t u : Source D) where
  -- After one more fault was read from the front, a run of faults was.
  pub passed_first : PassedFirst steps s t → (e : E) → source_steps steps t (Some (Err e)) u → PassedFirst steps s u
  passed_first p e h = record {
    at = λ number rest reports.
        let q = p.at number rest reports in
        (q.0 ++ number e ∷ [], q.1 ∙ ap (λ l. map Fault q.0 ++ l) (item_first number rest reports t u (Some (Err e)) h) ∙ sym (append_assoc (map Fault q.0) (Fault (number e) ∷ []) (left_in_source rest u)) ∙ ap (λ l. l ++ left_in_source rest u) (sym (map-append Fault q.0 (number e ∷ []))));
  }

  -- A run of faults was read from the front, and then a character.
  pub took_first : PassedFirst steps s t → (c : ℕ) → source_steps steps t (Some (Ok c)) u → TakesFirstCharacter steps s (Some c) u
  took_first p c h = record {
    at = λ number rest reports.
        let q = p.at number rest reports in
        (q.0, q.1 ∙ ap (λ l. map Fault q.0 ++ l) (item_first number rest reports t u (Some (Ok c)) h));
  }

  -- A run of faults was read from the front, and then the end.
  pub none_first : PassedFirst steps s t → source_steps steps t None u → TakesFirstCharacter steps s None u
  none_first p h = record {
    at = λ number rest reports.
        let q = p.at number rest reports in
        let none = item_first number rest reports t u None h in
        (q.0, (q.1 ∙ ap (λ l. map Fault q.0 ++ l) none.0 ∙ append-nil (map Fault q.0), none.1));
  }

  -- After one more fault was read from the back, a run of faults was.
  pub passed_last : PassedLast steps s t → (e : E) → source_steps steps t (Some (Err e)) u → PassedLast steps s u
  passed_last p e h = record {
    at = λ number rest reports.
        let q = p.at number rest reports in
        (number e ∷ q.0, q.1 ∙ ap (λ l. l ++ map Fault q.0) (item_last number rest reports t u (Some (Err e)) h) ∙ append_assoc (left_in_source rest u) (Fault (number e) ∷ []) (map Fault q.0));
  }

  -- A run of faults was read from the back, and then a character.
  pub took_last : PassedLast steps s t → (c : ℕ) → source_steps steps t (Some (Ok c)) u → TakesLastCharacter steps s (Some c) u
  took_last p c h = record {
    at = λ number rest reports.
        let q = p.at number rest reports in
        (q.0, q.1 ∙ ap (λ l. l ++ map Fault q.0) (item_last number rest reports t u (Some (Ok c)) h) ∙ append_assoc (left_in_source rest u) (Char c ∷ []) (map Fault q.0));
  }

  pub none_last : PassedLast steps s t → source_steps steps t None u → TakesLastCharacter steps s None u
  none_last p h = record {
    at = λ number rest reports.
        let q = p.at number rest reports in
        let none = item_last number rest reports t u None h in
        (q.0, (q.1 ∙ ap (λ l. l ++ map Fault q.0) none.0, none.1));
  }

-- What will be yielded: the character in the lookahead at the front, the lossy text of the items, and the character in
-- the lookahead at the back.
abbrev left : Option ℕ → Policy → List Item → Option ℕ → List ℕ
left f p is b = option_to_list f ++ lossy_by p is ++ option_to_list b

by-nil : (p : Policy) → lossy_by p [] ≡ []
by-nil p = sym (lossy_after-none p []) ∙ lossy_after-none_left p false

by-prefix_char : (p : Policy) (is : List Item) (c : ℕ) → lossy_by p (Char c ∷ is) ≡ c ∷ lossy_by p is
by-prefix_char p is c = lossy_by-at_char p [] is c ∙ ap (λ l. l ++ c ∷ lossy_by p is) (by-nil p)

by-back_char : (p : Policy) (is : List Item) (c : ℕ) → lossy_by p (is ++ Char c ∷ []) ≡ lossy_by p is ++ c ∷ []
by-back_char p is c = lossy_by-at_char p is [] c ∙ ap (λ l. lossy_by p is ++ c ∷ l) (by-nil p)

-- Lossy text of items that begin with a fault: what the policy yields for it, and the text of the others after a fault.
by-fault : (p : Policy) (u : ℕ) (is : List Item) (r : Option ℕ) → replacement p false ≡ r → lossy_by p (Fault u ∷ is) ≡ option_to_list r ++ lossy_after p true is
by-fault p u is None e = sym (lossy_after-none p (Fault u ∷ is)) ∙ lossy_after-dropped p false u is e
by-fault p u is (Some c) e = sym (lossy_after-none p (Fault u ∷ is)) ∙ lossy_after-replaced p false u c is e

-- If a fault directly after another is replaced as well, faults before items change nothing in their text.
after_same : (p : Policy) (c : ℕ) (r : Option ℕ) → replacement p false ≡ Some c → replacement p true ≡ r → is_some r ≡ true → (after : Bool) (is : List Item) → lossy_after p after is ≡ lossy_by p is
after_same p c None e f some after is = absurd cc
after_same p c (Some d) e f some false is = lossy_after-none p is
after_same p c (Some d) e f some true [] = lossy_after-none_left p true ∙ sym (by-nil p)
after_same p c (Some d) e f some true (Char x ∷ is) = lossy_after-char p true x is ∙ ap (λ l. x ∷ l) (lossy_after-none p is) ∙ sym (by-prefix_char p is x)
after_same p c (Some d) e f some true (Fault u ∷ is) =
    lossy_after-replaced p true u d is f ∙ ap (λ x. x ∷ lossy_after p true is) (replacement-is p true d f ∙ sym (replacement-is p false c e)) ∙ sym (by-fault p u is (Some c) e)

-- If a fault directly after another yields nothing, a run of faults yields what its first one does.
after_run : (p : Policy) (r : Option ℕ) → replacement p true ≡ r → is_some r ≡ false → (us : List ℕ) → lossy_after p true (map Fault us) ≡ []
after_run p (Some d) e none us = absurd cc
after_run p None e none [] = lossy_after-none_left p true
after_run p None e none (u ∷ us) = lossy_after-dropped p true u (map Fault us) e ∙ after_run p None e none us

by-run : (p : Policy) (u : ℕ) (us : List ℕ) (r : Option ℕ) → replacement p false ≡ r → is_some (replacement p true) ≡ false → lossy_by p (map Fault (u ∷ us)) ≡ option_to_list r
by-run p u us r e none = by-fault p u (map Fault us) r e ∙ ap (λ l. option_to_list r ++ l) (after_run p (replacement p true) refl none us) ∙ append-nil (option_to_list r)

by-run_end : (p : Policy) (us : List ℕ) (u : ℕ) (r : Option ℕ) → replacement p false ≡ r → is_some (replacement p true) ≡ false → lossy_by p (map Fault us ++ Fault u ∷ []) ≡ option_to_list r
by-run_end p [] u r e none = by-run p u [] r e none
by-run_end p (v ∷ us) u r e none = ap (λ is. lossy_by p (Fault v ∷ is)) (sym (map-append Fault us (u ∷ []))) ∙ by-run p v (us ++ u ∷ []) r e none

-- A run of faults from the front up to a character, or to the end.
abbrev FirstRow : List Item → Option ℕ → List Item → Type 0
FirstRow mid r js = (run : List ℕ) × MatchOption r ((mid ≡ map Fault run) × (js ≡ [])) (λ c. mid ≡ map Fault run ++ Char c ∷ js)

-- A run of faults from the back up to a character, or to the beginning.
abbrev LastRow : List Item → Option ℕ → List Item → Type 0
LastRow mid r js = (run : List ℕ) × MatchOption r ((mid ≡ map Fault run) × (js ≡ [])) (λ c. mid ≡ js ++ Char c ∷ map Fault run)

-- What is left at the end of the items, from the front.
end_first : (X Y : List ℕ) → X ≡ [] → Y ≡ [] → (b : Option ℕ) → MatchOption b ((X ++ option_to_list b ≡ []) × (Y ++ [] ≡ [])) (λ x. X ++ option_to_list b ≡ x ∷ (Y ++ []))
end_first X Y e f None = (ap (λ l. l ++ []) e, ap (λ l. l ++ []) f)
end_first X Y e f (Some x) = ap (λ l. l ++ x ∷ []) e ∙ ap (λ l. x ∷ (l ++ [])) (sym f)

end_last : (X Y : List ℕ) → X ≡ [] → Y ≡ [] → (f : Option ℕ) → MatchOption f ((option_to_list f ++ X ++ [] ≡ []) × (Y ++ [] ≡ [])) (λ x. option_to_list f ++ X ++ [] ≡ (Y ++ []) ++ x ∷ [])
end_last X Y e f None = (ap (λ l. l ++ []) e, ap (λ l. l ++ []) f)
end_last X Y e f (Some x) = ap (λ l. x ∷ (l ++ [])) e ∙ ap (λ l. (l ++ []) ++ x ∷ []) (sym f)

module _ (p : Policy) (is mid js : List Item) (b : Option ℕ) where
  pub char_first : (c : ℕ) → is ≡ Char c ∷ js → left None p is b ≡ c ∷ left None p js b
  char_first c e = ap (λ l. lossy_by p l ++ option_to_list b) e ∙ ap (λ l. l ++ option_to_list b) (by-prefix_char p js c)

  pub each_first : (u c : ℕ) → replacement p false ≡ Some c → is_some (replacement p true) ≡ true → is ≡ Fault u ∷ js → left None p is b ≡ c ∷ left None p js b
  each_first u c e f g = ap (λ l. lossy_by p l ++ option_to_list b) g ∙ ap (λ l. l ++ option_to_list b) (by-fault p u js (Some c) e ∙ ap (λ l. c ∷ l) (after_same p c (replacement p true) e refl f true js))

  -- Lossy text of a run of faults and a character after it, whatever is yielded for the run.
  beyond_run : (u c : ℕ) (r : Option ℕ) → replacement p false ≡ r → is_some (replacement p true) ≡ false → is ≡ Fault u ∷ mid → FirstRow mid (Some c) js → left None p is b ≡ option_to_list r ++ left (Some c) p js b
  beyond_run u c r e f g (run, h) =
      ap (λ l. lossy_by p l ++ option_to_list b) (g ∙ ap (λ l. Fault u ∷ l) h)
      ∙ ap (λ l. l ++ option_to_list b) (lossy_by-at_char p (map Fault (u ∷ run)) js c ∙ ap (λ l. l ++ c ∷ lossy_by p js) (by-run p u run r e f))
      ∙ append_assoc (option_to_list r) (c ∷ lossy_by p js) (option_to_list b)

  only_run : (u : ℕ) (r : Option ℕ) → replacement p false ≡ r → is_some (replacement p true) ≡ false → is ≡ Fault u ∷ mid → FirstRow mid None js → lossy_by p is ≡ option_to_list r
  only_run u r e f g (run, h) = ap (lossy_by p) (g ∙ ap (λ l. Fault u ∷ l) h.0) ∙ by-run p u run r e f

  pub run_first : (u c : ℕ) (r : Option ℕ) → replacement p false ≡ Some c → is_some (replacement p true) ≡ false → is ≡ Fault u ∷ mid → FirstRow mid r js → left None p is b ≡ c ∷ left r p js b
  run_first u c None e f g h = ap (λ l. l ++ option_to_list b) (only_run u (Some c) e f g h) ∙ ap (λ l. c ∷ l ++ option_to_list b) (sym (ap (lossy_by p) h.1.1 ∙ by-nil p))
  run_first u c (Some d) e f g h = beyond_run u d (Some c) e f g h

  pub skip_first : (u c : ℕ) → replacement p false ≡ None → is ≡ Fault u ∷ mid → FirstRow mid (Some c) js → left None p is b ≡ c ∷ left None p js b
  skip_first u c e g h = beyond_run u c None e (replacement-drops_run p e) g h

  pub skip_to_end : (u : ℕ) → replacement p false ≡ None → is ≡ Fault u ∷ mid → FirstRow mid None js → MatchOption b ((left None p is b ≡ []) × (left None p js None ≡ [])) (λ x. left None p is b ≡ x ∷ left None p js None)
  skip_to_end u e g h = end_first (lossy_by p is) (lossy_by p js) (only_run u None e (replacement-drops_run p e) g h) (ap (lossy_by p) h.1.1 ∙ by-nil p) b

  pub at_end : is ≡ [] → js ≡ [] → MatchOption b ((left None p is b ≡ []) × (left None p js None ≡ [])) (λ x. left None p is b ≡ x ∷ left None p js None)
  at_end e f = end_first (lossy_by p is) (lossy_by p js) (ap (lossy_by p) e ∙ by-nil p) (ap (lossy_by p) f ∙ by-nil p) b

-- What a call from the back yields.
module _ (p : Policy) (is mid js : List Item) (f : Option ℕ) where
  placed : (X Z : List ℕ) (c : ℕ) → X ≡ Z ++ c ∷ [] → (option_to_list f ++ X) ++ [] ≡ (option_to_list f ++ Z) ++ c ∷ []
  placed X Z c e = append-nil (option_to_list f ++ X) ∙ ap (λ l. option_to_list f ++ l) e ∙ sym (append_assoc (option_to_list f) Z (c ∷ []))

  placed_nil : (X Y : List ℕ) (c : ℕ) → X ≡ Y ++ c ∷ [] → (option_to_list f ++ X) ++ [] ≡ ((option_to_list f ++ Y) ++ []) ++ c ∷ []
  placed_nil X Y c e = placed X Y c e ∙ ap (λ l. l ++ c ∷ []) (sym (append-nil (option_to_list f ++ Y)))

  placed_lookahead : (X Y : List ℕ) (c d : ℕ) → X ≡ (Y ++ d ∷ []) ++ c ∷ [] → (option_to_list f ++ X) ++ [] ≡ ((option_to_list f ++ Y) ++ d ∷ []) ++ c ∷ []
  placed_lookahead X Y c d e = placed X (Y ++ d ∷ []) c e ∙ ap (λ l. l ++ c ∷ []) (sym (append_assoc (option_to_list f) Y (d ∷ [])))

  pub char_last : (c : ℕ) → is ≡ js ++ Char c ∷ [] → left f p is None ≡ left f p js None ++ c ∷ []
  char_last c e = placed_nil (lossy_by p is) (lossy_by p js) c (ap (lossy_by p) e ∙ by-back_char p js c)

  pub each_last : (u c : ℕ) → replacement p false ≡ Some c → is_some (replacement p true) ≡ true → is ≡ js ++ Fault u ∷ [] → left f p is None ≡ left f p js None ++ c ∷ []
  each_last u c e h g = placed_nil (lossy_by p is) (lossy_by p js) c (
      ap (lossy_by p) g ∙ sym (lossy_after-none p (js ++ Fault u ∷ [])) ∙ lossy_after-append p false js (Fault u ∷ [])
      ∙ ap (λ l. l ++ lossy_after p (ends_in_fault false js) (Fault u ∷ [])) (lossy_after-none p js)
      ∙ ap (λ l. lossy_by p js ++ l) (after_same p c (replacement p true) e refl h (ends_in_fault false js) (Fault u ∷ []) ∙ by-fault p u [] (Some c) e ∙ ap (λ l. c ∷ l) (lossy_after-none_left p true)))

  -- Lossy text of a character and a run of faults after it, whatever is yielded for the run.
  before_run : (u c : ℕ) (r : Option ℕ) → replacement p false ≡ r → is_some (replacement p true) ≡ false → is ≡ mid ++ Fault u ∷ [] → LastRow mid (Some c) js → lossy_by p is ≡ (lossy_by p js ++ c ∷ []) ++ option_to_list r
  before_run u c r e h g (run, k) =
      ap (lossy_by p) (g ∙ ap (λ l. l ++ Fault u ∷ []) k ∙ append_assoc js (Char c ∷ map Fault run) (Fault u ∷ []))
      ∙ lossy_by-at_char p js (map Fault run ++ Fault u ∷ []) c ∙ ap (λ l. lossy_by p js ++ c ∷ l) (by-run_end p run u r e h)
      ∙ sym (append_assoc (lossy_by p js) (c ∷ []) (option_to_list r))

  only_run_end : (u : ℕ) (r : Option ℕ) → replacement p false ≡ r → is_some (replacement p true) ≡ false → is ≡ mid ++ Fault u ∷ [] → LastRow mid None js → lossy_by p is ≡ option_to_list r
  only_run_end u r e h g (run, k) = ap (lossy_by p) (g ∙ ap (λ l. l ++ Fault u ∷ []) k.0) ∙ by-run_end p run u r e h

  pub run_last : (u c : ℕ) (r : Option ℕ) → replacement p false ≡ Some c → is_some (replacement p true) ≡ false → is ≡ mid ++ Fault u ∷ [] → LastRow mid r js → left f p is None ≡ left f p js r ++ c ∷ []
  run_last u c None e h g k = placed_nil (lossy_by p is) (lossy_by p js) c (only_run_end u (Some c) e h g k ∙ ap (λ l. l ++ c ∷ []) (sym (ap (lossy_by p) k.1.1 ∙ by-nil p)))
  run_last u c (Some d) e h g k = placed_lookahead (lossy_by p is) (lossy_by p js) c d (before_run u d (Some c) e h g k)

  pub skip_last : (u c : ℕ) → replacement p false ≡ None → is ≡ mid ++ Fault u ∷ [] → LastRow mid (Some c) js → left f p is None ≡ left f p js None ++ c ∷ []
  skip_last u c e g k = placed_nil (lossy_by p is) (lossy_by p js) c (before_run u c None e (replacement-drops_run p e) g k ∙ append-nil (lossy_by p js ++ c ∷ []))

  pub skip_to_front : (u : ℕ) → replacement p false ≡ None → is ≡ mid ++ Fault u ∷ [] → LastRow mid None js → MatchOption f ((left f p is None ≡ []) × (left None p js None ≡ [])) (λ x. left f p is None ≡ left None p js None ++ x ∷ [])
  skip_to_front u e g k = end_last (lossy_by p is) (lossy_by p js) (only_run_end u None e (replacement-drops_run p e) g k) (ap (lossy_by p) k.1.1 ∙ by-nil p) f

  pub at_front : is ≡ [] → js ≡ [] → MatchOption f ((left f p is None ≡ []) × (left None p js None ≡ [])) (λ x. left f p is None ≡ left None p js None ++ x ∷ [])
  at_front e g = end_last (lossy_by p is) (lossy_by p js) (ap (lossy_by p) e ∙ by-nil p) (ap (lossy_by p) g ∙ by-nil p) f
