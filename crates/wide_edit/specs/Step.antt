-- The meaning of edits: each one makes a new list of characters of a list, and gives a reply.
use Rattle.std.specs.Prelude.{ℕ, ◌+◌, ◌-◌, List, [], ◌∷◌, length, take, drop, Bool, ◌&&◌, if◌then◌else◌, nat_le, nat_lt, nat_eq, slice_range}
use Rattle.std.specs.List.{splice, list_any, filter}
use Rattle.std.specs.Str.{chars}
use Rattle.wide_edit.specs.declared.edits.Edit.{Edit}
use Rattle.wide_edit.specs.declared.edits.Edit.TheVariants.{Push, PushStr, Pop, Truncate, Insert, InsertStr, Remove, Retain, Drain, Replace, SplitOff, Clear}
use Rattle.wide_edit.specs.declared.edits.Reply.{Reply}
use Rattle.wide_edit.specs.declared.edits.Reply.TheVariants as reply

-- A reply as data: the characters that it holds, without their memory.
pub data ReplyData : Type 0 where
  Done : ReplyData
  Char : (c : ℕ) → ReplyData
  NoChar : ReplyData
  Chars : (cs : List ℕ) → ReplyData
  BadPlace : ReplyData
  BadRange : ReplyData

-- The data of a reply.
abbrev pub reply_data : Reply → ReplyData
reply_data reply.Done = Done
reply_data (reply.Char c) = Char c
reply_data reply.NoChar = NoChar
reply_data (reply.Chars cs) = Chars cs.items
reply_data reply.BadPlace = BadPlace
reply_data reply.BadRange = BadRange

-- The reply that holds the first character of a list, or says that there is none.
abbrev pub first_char : List ℕ → ReplyData
first_char [] = NoChar
first_char (c ∷ cs) = Char c

-- Whether indices `a` and `b` are a range of `count` characters: `a` is at most `b`, and `b` at most `count`.
abbrev pub is_range : ℕ → ℕ → ℕ → Bool
is_range a b count = nat_le a b && nat_le b count

-- Whether a character occurs in a list.
abbrev pub occurs : List ℕ → ℕ → Bool
occurs keep c = list_any (λ k. nat_eq k c) keep

-- The list that an edit makes of the list `l`; `l` itself if the edit is rejected.
abbrev pub changed : List ℕ → Edit → List ℕ
changed l (Push c) = splice l (length l) (length l) (c ∷ [])
changed l (PushStr t) = splice l (length l) (length l) (chars t.now)
changed l Pop = splice l (length l - 1) (length l) []
changed l (Truncate m) = take m l
changed l (Insert i c) = if nat_le i (length l) then splice l i i (c ∷ []) else l
changed l (InsertStr i t) = if nat_le i (length l) then splice l i i (chars t.now) else l
changed l (Remove i) = if nat_lt i (length l) then splice l i (i + 1) [] else l
changed l (Retain keep) = filter (occurs keep.now) l
changed l (Drain a b) = if is_range a b (length l) then splice l a b [] else l
changed l (Replace a b t) = if is_range a b (length l) then splice l a b (chars t.now) else l
changed l (SplitOff i) = if nat_le i (length l) then take i l else l
changed l Clear = []

-- The reply to an edit of the list `l`.
abbrev pub reply_to : List ℕ → Edit → ReplyData
reply_to l (Push c) = Done
reply_to l (PushStr t) = Done
reply_to l Pop = first_char (drop (length l - 1) l)
reply_to l (Truncate m) = Done
reply_to l (Insert i c) = if nat_le i (length l) then Done else BadPlace
reply_to l (InsertStr i t) = if nat_le i (length l) then Done else BadPlace
reply_to l (Remove i) = if nat_lt i (length l) then first_char (drop i l) else BadPlace
reply_to l (Retain keep) = Done
reply_to l (Drain a b) = if is_range a b (length l) then Chars (slice_range l a b) else BadRange
reply_to l (Replace a b t) = if is_range a b (length l) then Done else BadRange
reply_to l (SplitOff i) = if nat_le i (length l) then Chars (drop i l) else BadPlace
reply_to l Clear = Done

-- One edit: the new list, and the reply.
abbrev pub step : List ℕ → Edit → List ℕ × ReplyData
step l edit = (changed l edit, reply_to l edit)

-- Edits one after another, each of the list that the edits before it made: the last list, and the list of replies.
abbrev pub meaning : List ℕ → List Edit → List ℕ × List ReplyData
meaning l [] = (l, [])
meaning l (edit ∷ edits) = ((meaning (step l edit).0 edits).0, (step l edit).1 ∷ (meaning (step l edit).0 edits).1)

-- How many characters a reply holds in a list.
abbrev pub chars_in : ReplyData → ℕ
chars_in Done = 0
chars_in (Char c) = 0
chars_in NoChar = 0
chars_in (Chars cs) = length cs
chars_in BadPlace = 0
chars_in BadRange = 0
