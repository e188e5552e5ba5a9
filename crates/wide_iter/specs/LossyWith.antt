-- What lossy decoders under a policy will yield, over any decoder for which a function returns the items that are left.
use Rattle.std.specs.Prelude.{◌≡◌, ℕ, ◌+◌, false, List, [], ◌∷◌, ◌++◌, map, Option, None, Result, MatchOption}
use Rattle.std.specs.Option.{option_to_list, option_len}
use Rattle.std.specs.Iterator.{Count, count_map, IsFinite, YieldsFirst, YieldsLast, YieldsFirstBy, YieldsLastBy}
use Rattle.wide_forms.specs.Segmentation.{Item, Char, Fault}
use Rattle.wide_unit.specs.Unit.{item_of}
use Rattle.wide_forms.specs.Lossy.{lossy_by}
use Rattle.wide_forms.specs.declared.policy.Policy.{Policy}
use Rattle.wide_iter.specs.Source.{has_ended, left_in_source, CanAsk, source_count}
use Rattle.wide_iter.specs.declared.source.Source.{Source}
use Rattle.wide_iter.specs.declared.lossy_with.LossyWith.{LossyWith}

module _ {D : Type 0} where
  -- The source may be called until it ends, and it is finite.
  pub record CanAskAll (can : D → Type 0) (count : D → Count) (s : Source D) : Type 0 where
    pub asks : CanAsk can s
    pub ends : IsFinite (source_count count s)

  -- The source of the items that are made lossy.
  abbrev pub lossy_source : LossyWith D → Source D
  lossy_source s = s.items

  -- The policy that says what replaces faults.
  abbrev pub policy_of : LossyWith D → Policy
  policy_of s = s.policy

  -- The characters that will be yielded: the one in the lookahead at the front, the lossy text of the items that are
  -- left, and the one in the lookahead at the back.
  abbrev pub lossy_with_left : (D → List Item) → LossyWith D → List ℕ
  lossy_with_left rest s = option_to_list s.front ++ lossy_by s.policy (left_in_source rest s.items) ++ option_to_list s.back

  -- The lookahead is empty, and the decoder may be called.
  pub record IsUnread (s : LossyWith D) : Type 0 where
    pub asked : has_ended s.items ≡ false
    pub front : s.front ≡ None
    pub back : s.back ≡ None

  -- At most as many characters will be yielded as items are left, and characters in the lookahead.
  abbrev pub lossy_with_count : (D → Count) → LossyWith D → Count
  lossy_with_count count s = count_map (λ n. n + (option_len s.front + option_len s.back)) (source_count count s.items)

module _ {D E : Type 0} (steps : D → Option (Result ℕ E) → D → Type 0) where
  -- Each call of a decoder yields the first of the items that `rest` returns. `number` returns the unit of a fault.
  pub record GivesFirstItem (number : E → ℕ) (rest : D → List Item) : Type 0 where
    pub at : (s : D) (r : Option (Result ℕ E)) (t : D) → steps s r t → YieldsFirstBy (item_of number) rest s r t

  -- Each call of a decoder yields the last of the items that `rest` returns. `number` returns the unit of a fault.
  pub record GivesLastItem (number : E → ℕ) (rest : D → List Item) : Type 0 where
    pub at : (s : D) (r : Option (Result ℕ E)) (t : D) → steps s r t → YieldsLastBy (item_of number) rest s r t

  -- A run of faults was read from the front, and then the character that was returned, or nothing.
  pub record TakesFirstCharacter (s : Source D) (r : Option ℕ) (t : Source D) : Type 0 where
    pub at : (number : E → ℕ) (rest : D → List Item) → GivesFirstItem number rest
        → (run : List ℕ) × MatchOption r ((left_in_source rest s ≡ map Fault run) × (left_in_source rest t ≡ [])) (λ c. left_in_source rest s ≡ map Fault run ++ Char c ∷ left_in_source rest t)

  -- A run of faults was read from the back, and then the character that was returned, or nothing.
  pub record TakesLastCharacter (s : Source D) (r : Option ℕ) (t : Source D) : Type 0 where
    pub at : (number : E → ℕ) (rest : D → List Item) → GivesLastItem number rest
        → (run : List ℕ) × MatchOption r ((left_in_source rest s ≡ map Fault run) × (left_in_source rest t ≡ [])) (λ c. left_in_source rest s ≡ left_in_source rest t ++ Char c ∷ map Fault run)

  -- For each function that returns the items of the decoder, a call yielded the first of the characters that were left.
  pub record LossyFirst (s : LossyWith D) (r : Option ℕ) (t : LossyWith D) : Type 0 where
    pub at : (number : E → ℕ) (rest : D → List Item) → GivesFirstItem number rest → YieldsFirst (lossy_with_left rest) s r t

  -- For each function that returns the items of the decoder, a call yielded the last of the characters that were left.
  pub record LossyLast (s : LossyWith D) (r : Option ℕ) (t : LossyWith D) : Type 0 where
    pub at : (number : E → ℕ) (rest : D → List Item) → GivesLastItem number rest → YieldsLast (lossy_with_left rest) s r t
