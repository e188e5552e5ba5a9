-- Runs of faults at the ends of a list of items, and the lossy text after them and before them.
use Rattle.std.proofs.Common.{◌≡◌, ℕ, List, [], ◌∷◌, ◌++◌, inl, inr, refl, sym, ◌∙◌, ap, append_assoc}
use Rattle.std.specs.Prelude.{◌⊎◌, map, is_some, true, false, Option, Some, None, MatchOption}
use Rattle.std.proofs.lemmas.List.{append-nil, map_push}
use Rattle.wide_forms.specs.Segmentation.{Item, Char, Fault}
use Rattle.wide_forms.specs.Items.{characters}
use Rattle.wide_forms.specs.Lossy.{lossy_runs, lossy_by, lossy_after, ends_in_fault, replacement}
use Rattle.wide_forms.specs.Laws.Policies.{characters-append, lossy_by-at_char, lossy_by-characters, runs-at_char, runs-of_run, lossy_after-append, lossy_after-char, lossy_after-dropped, lossy_after-none, lossy_after-none_left, lossy_after-replaced, ends_in_fault-append}
use Rattle.wide_forms.specs.declared.policy.Policy.{Policy}
use Rattle.wide_ustr.specs.LossyWith.{BeginsPastFaults, EndsBeforeFaults}

-- All items that were read from the front are faults.
abbrev pub PassedFirst : List Item → List Item → Type 0
PassedFirst is now = (run : List ℕ) × (is ≡ map Fault run ++ now)

-- All items that were read from the back are faults.
abbrev pub PassedLast : List Item → List Item → Type 0
PassedLast is now = (run : List ℕ) × (is ≡ now ++ map Fault run)

-- If nothing was read from the front, all that was read are faults.
pub none_first : (is : List Item) → PassedFirst is is
none_first is = ([], refl)

-- If nothing was read from the back, all that was read are faults.
pub none_last : (is : List Item) → PassedLast is is
none_last is = ([], sym (append-nil is))

-- If one more fault was read from the front, all that was read are faults.
pub one_more_first : (is now next : List Item) (u : ℕ) → PassedFirst is now → now ≡ Fault u ∷ next → PassedFirst is next
one_more_first is now next u passed e =
    (passed.0 ++ u ∷ [], passed.1 ∙ ap (λ xs. map Fault passed.0 ++ xs) e ∙ sym (append_assoc (map Fault passed.0) (Fault u ∷ []) next) ∙ ap (λ xs. xs ++ next) (sym (map_push Fault passed.0 u)))

-- If one more fault was read from the back, all that was read are faults.
pub one_more_last : (is now next : List Item) (u : ℕ) → PassedLast is now → now ≡ next ++ Fault u ∷ [] → PassedLast is next
one_more_last is now next u passed e =
    (u ∷ passed.0, passed.1 ∙ ap (λ xs. xs ++ map Fault passed.0) e ∙ append_assoc next (Fault u ∷ []) (map Fault passed.0))

pub past_all : (is rest : List Item) → PassedFirst is rest → rest ≡ [] → BeginsPastFaults is rest
past_all is rest passed e = record { run = passed.0; joined = passed.1; past = inl e }

pub past_to : (is rest tail : List Item) (c : ℕ) → PassedFirst is rest → rest ≡ Char c ∷ tail → BeginsPastFaults is rest
past_to is rest tail c passed e = record { run = passed.0; joined = passed.1; past = inr (c, tail, e) }

pub before_all : (is rest : List Item) → PassedLast is rest → rest ≡ [] → EndsBeforeFaults is rest
before_all is rest passed e = record { run = passed.0; joined = passed.1; before = inl e }

pub before_to : (is rest prefix : List Item) (c : ℕ) → PassedLast is rest → rest ≡ prefix ++ Char c ∷ [] → EndsBeforeFaults is rest
before_to is rest prefix c passed e = record { run = passed.0; joined = passed.1; before = inr (c, prefix, e) }

-- The run of faults at the beginning becomes one U+FFFD.
pub runs_first : (is rest : List Item) (u : ℕ) → BeginsPastFaults is rest → lossy_runs (Fault u ∷ is) ≡ 0xFFFD ∷ lossy_runs rest
runs_first is rest u begins =
    ap (λ xs. lossy_runs (Fault u ∷ xs)) begins.joined ∙ elim begins.past [
      | inl none ↦ ap (λ xs. lossy_runs (map Fault (u ∷ begins.run) ++ xs)) none ∙ ap lossy_runs (append-nil (map Fault (u ∷ begins.run))) ∙ runs-of_run u begins.run ∙ ap (λ xs. 0xFFFD ∷ lossy_runs xs) (sym none)
      | inr some ↦
          ap (λ xs. lossy_runs (map Fault (u ∷ begins.run) ++ xs)) some.2 ∙ runs-at_char (map Fault (u ∷ begins.run)) some.1 some.0 ∙ ap (λ xs. xs ++ some.0 ∷ lossy_runs some.1) (runs-of_run u begins.run)
          ∙ ap (λ xs. 0xFFFD ∷ lossy_runs xs) (sym some.2)
    ]

pub lossy_by-none : (policy : Policy) → lossy_by policy [] ≡ []
lossy_by-none policy = sym (lossy_after-none policy []) ∙ lossy_after-none_left policy false

-- If a policy has nothing for a fault that directly follows another, the rest of a run of faults yields nothing.
past_run : (policy : Policy) (again : Option ℕ) → replacement policy true ≡ again → is_some again ≡ false → (run : List ℕ) (is : List Item) → lossy_after policy true (map Fault run ++ is) ≡ lossy_after policy true is
past_run policy (Some c) e none run is = absurd cc
past_run policy None e none [] is = refl
past_run policy None e none (u ∷ run) is = lossy_after-dropped policy true u (map Fault run ++ is) e ∙ past_run policy None e none run is

-- Lossy text after a fault, of items that begin with a character or are none.
after_fault : (policy : Policy) (is : List Item) → (is ≡ []) ⊎ ((c : ℕ) × (tail : List Item) × (is ≡ Char c ∷ tail)) → lossy_after policy true is ≡ lossy_by policy is
after_fault policy is past = elim past [
  | inl none ↦ rw none (lossy_after-none_left policy true ∙ sym (lossy_by-none policy))
  | inr some ↦ rw some.2 (lossy_after-char policy true some.0 some.1 ∙ sym (lossy_after-char policy false some.0 some.1) ∙ lossy_after-none policy (Char some.0 ∷ some.1))
]

-- What a call from the front yields that reads a run of faults: what the policy has for the first of them.
pub run_next : (policy : Policy) (is tail rest : List Item) (u c : ℕ) → replacement policy false ≡ Some c → is_some (replacement policy true) ≡ false → is ≡ Fault u ∷ tail → BeginsPastFaults tail rest → lossy_by policy is ≡ c ∷ lossy_by policy rest
run_next policy is tail rest u c e none f begins =
    ap (lossy_by policy) f ∙ sym (lossy_after-none policy (Fault u ∷ tail)) ∙ lossy_after-replaced policy false u c tail e
    ∙ ap (λ xs. c ∷ xs) (ap (lossy_after policy true) begins.joined ∙ past_run policy (replacement policy true) refl none begins.run rest ∙ after_fault policy rest begins.past)

whole_run : (policy : Policy) (run : List ℕ) (u c : ℕ) → replacement policy false ≡ Some c → is_some (replacement policy true) ≡ false → lossy_after policy false (map Fault (u ∷ run)) ≡ c ∷ []
whole_run policy run u c e none =
    lossy_after-replaced policy false u c (map Fault run) e ∙ ap (λ xs. c ∷ lossy_after policy true xs) (sym (append-nil (map Fault run)))
    ∙ ap (λ xs. c ∷ xs) (past_run policy (replacement policy true) refl none run [] ∙ lossy_after-none_left policy true)

run_end : (policy : Policy) (run : List ℕ) (u c : ℕ) → replacement policy false ≡ Some c → is_some (replacement policy true) ≡ false → lossy_after policy false (map Fault run ++ Fault u ∷ []) ≡ c ∷ []
run_end policy [] u c e none = whole_run policy [] u c e none
run_end policy (v ∷ run) u c e none = ap (λ xs. lossy_after policy false (Fault v ∷ xs)) (sym (map_push Fault run u)) ∙ whole_run policy (run ++ u ∷ []) v c e none

ends_in_char : (is : List Item) → (is ≡ []) ⊎ ((c : ℕ) × (prefix : List Item) × (is ≡ prefix ++ Char c ∷ [])) → ends_in_fault false is ≡ false
ends_in_char is before = elim before [
  | inl none ↦ ap (ends_in_fault false) none
  | inr some ↦ ap (ends_in_fault false) some.2 ∙ ends_in_fault-append false some.1 (Char some.0 ∷ [])
]

-- What a call from the back yields that reads a run of faults: what the policy has for the first of them.
pub run_next_back : (policy : Policy) (is prefix rest : List Item) (u c : ℕ) → replacement policy false ≡ Some c → is_some (replacement policy true) ≡ false → is ≡ prefix ++ Fault u ∷ [] → EndsBeforeFaults prefix rest → lossy_by policy is ≡ lossy_by policy rest ++ c ∷ []
run_next_back policy is prefix rest u c e none f ends =
    let faults = map Fault ends.run ++ Fault u ∷ [] in
    ap (lossy_by policy) (f ∙ ap (λ xs. xs ++ Fault u ∷ []) ends.joined ∙ append_assoc rest (map Fault ends.run) (Fault u ∷ [])) ∙ sym (lossy_after-none policy (rest ++ faults))
    ∙ lossy_after-append policy false rest faults ∙ ap (λ after. lossy_after policy false rest ++ lossy_after policy after faults) (ends_in_char rest ends.before)
    ∙ ap (λ xs. lossy_after policy false rest ++ xs) (run_end policy ends.run u c e none) ∙ ap (λ xs. xs ++ c ∷ []) (lossy_after-none policy rest)

-- What a call from the back yields that skips a fault at the end: the last character before it, if there is one.
pub skip_back : (policy now : Policy) (is prefix rest : List Item) (u : ℕ) (r : Option ℕ) → replacement policy false ≡ None → now ≡ policy → is ≡ prefix ++ Fault u ∷ []
    → MatchOption r ((characters prefix ≡ []) × (characters rest ≡ [])) (λ c. characters prefix ≡ characters rest ++ c ∷ [])
    → MatchOption r ((lossy_by policy is ≡ []) × (lossy_by now rest ≡ [])) (λ c. lossy_by policy is ≡ lossy_by now rest ++ c ∷ [])
skip_back policy now is prefix rest u r e same f h =
    let skipped = lossy_by-characters policy is e ∙ ap characters f ∙ characters-append prefix (Fault u ∷ []) ∙ append-nil (characters prefix) in
    rw (same, skipped, lossy_by-characters policy rest e) h

-- The last item under any policy, if it is a character.
pub last_char : (policy : Policy) (is prefix : List Item) (c : ℕ) → is ≡ prefix ++ Char c ∷ [] → lossy_by policy is ≡ lossy_by policy prefix ++ c ∷ []
last_char policy is prefix c e = ap (lossy_by policy) e ∙ lossy_by-at_char policy prefix [] c ∙ ap (λ xs. lossy_by policy prefix ++ c ∷ xs) (lossy_by-none policy)
