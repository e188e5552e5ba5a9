-- The offset index of a UTF-16 text: the offsets, in units, of every 64th character.
use Rattle.std.specs.Prelude.{◌≡◌, ℕ, ◌+◌, ◌-◌, ◌*◌, ◌/◌, ◌<◌, ◌≤◌, List, map, take, length, slice_index}
use Rattle.std.specs.List.{range_with_len}
use Rattle.wide_forms.specs.EncodingForm.{Utf16, encode}

-- The unit offset of character number `index`: the length in units of the characters before it.
abbrev pub offset : List ℕ → ℕ → ℕ
offset cs index = length (encode Utf16 (take index cs))

-- Entry number `k` of the index of these characters: the length in units of the first `64 * k`.
abbrev pub index_entry : List ℕ → ℕ → ℕ
index_entry cs k = length (encode Utf16 (take (64 * k) cs))

-- The entries number 1, 2 and so on, as long as there are so many characters.
abbrev pub index_entries : List ℕ → List ℕ
index_entries cs = map (index_entry cs) (range_with_len 1 (length cs / 64))

-- As many units follow character number `index` as follow an offset in a text of `units` units.
abbrev pub IsMoved : List ℕ → ℕ → ℕ → ℕ → Type 0
IsMoved cs index units at = offset cs index + units ≡ length (encode Utf16 cs) + at

module _ (cs : List ℕ) (count units : ℕ) where
  -- These characters are those of a text of `count` characters and `units` units whose characters from index `from`, at
  -- offset `start`, up to index `to`, at offset `end`, were replaced.
  pub record IsEdited (from to start end : ℕ) : Type 0 where
    pub forward : from ≤ to
    pub within : to ≤ count
    pub fits : count + from ≤ length cs + to
    pub starts : start ≡ offset cs from
    pub ends : IsMoved cs (length cs + to - count) units end

  -- From index `to` on, the entries are those of the text before the edit.
  abbrev pub AreMoved : ℕ → List ℕ → Type 0
  AreMoved to marks = (k : ℕ) → to ≤ 64 * (k + 1) → k < length marks → IsMoved cs (length cs + 64 * (k + 1) - count) units (slice_index marks k)
