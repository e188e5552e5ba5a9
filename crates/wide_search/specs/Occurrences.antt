-- Occurrences of a needle in a list of any type. An empty needle occurs at each index.
use Rattle.std.specs.Prelude.{◌≡◌, ◌+◌, ◌++◌, ◌<◌, ◌≤◌, ℕ, List, length, take, drop}

module _ {A : Type 0} where
  -- The elements at the index are those of the needle.
  pub record OccursAt (needle whole : List A) (at : ℕ) : Type 0 where
    pub within : at + length needle ≤ length whole
    pub same : take (length needle) (drop at whole) ≡ needle

  -- The needle occurs at some index.
  abbrev pub OccursIn : List A → List A → Type 0
  OccursIn needle whole = (at : ℕ) × OccursAt needle whole at

  -- The needle occurs at no index.
  abbrev pub OccursNowhere : List A → List A → Type 0
  OccursNowhere needle whole = (at : ℕ) → ¬ (OccursAt needle whole at)

  -- The needle occurs at the index, and at none before it.
  pub record IsFirstAt (needle whole : List A) (at : ℕ) : Type 0 where
    pub here : OccursAt needle whole at
    pub before : (earlier : ℕ) → earlier < at → ¬ (OccursAt needle whole earlier)

  -- The needle occurs at the index, and at none after it.
  pub record IsLastAt (needle whole : List A) (at : ℕ) : Type 0 where
    pub here : OccursAt needle whole at
    pub beyond : (later : ℕ) → at < later → ¬ (OccursAt needle whole later)

  -- The needle occurs at the index, which is not before `from`, and at no index between the two.
  pub record IsFirstFrom (needle whole : List A) (from at : ℕ) : Type 0 where
    pub here : OccursAt needle whole at
    pub after : from ≤ at
    pub before : (earlier : ℕ) → from ≤ earlier → earlier < at → ¬ (OccursAt needle whole earlier)

  -- The needle occurs at no index from `from` on.
  abbrev pub OccursNowhereFrom : List A → List A → ℕ → Type 0
  OccursNowhereFrom needle whole from = (at : ℕ) → from ≤ at → ¬ (OccursAt needle whole at)

  -- The list begins with the needle.
  abbrev pub BeginsWith : List A → List A → Type 0
  BeginsWith needle whole = (rest : List A) × (whole ≡ needle ++ rest)

  -- The list ends with the needle.
  abbrev pub EndsWith : List A → List A → Type 0
  EndsWith needle whole = (prefix : List A) × (whole ≡ prefix ++ needle)

  -- The list is `prefix`, the needle and `rest`, and the needle first occurs after `prefix`.
  pub record IsFirstSplit (needle whole prefix rest : List A) : Type 0 where
    pub joined : whole ≡ prefix ++ (needle ++ rest)
    pub first : IsFirstAt needle whole (length prefix)

  -- The list is `prefix`, the needle and `rest`, and the needle last occurs after `prefix`.
  pub record IsLastSplit (needle whole prefix rest : List A) : Type 0 where
    pub joined : whole ≡ prefix ++ (needle ++ rest)
    pub last : IsLastAt needle whole (length prefix)
