-- Arguments ask for one request.
use Rattle.std.proofs.Common.{◌≡◌, ℕ, ◌<◌, ◌≤◌, ◌-◌, length, take, drop, subst, Option, Result, Ok, Err, IfOk, IfSome, IsSome, List, [], ◌∷◌, Some, None, sym, ◌∙◌, ap, get_or, arith}
use Rattle.std.specs.declared.string.String.{String}
use Rattle.std.specs.Prelude.{codes, string_bytes}
use Rattle.std.proofs.lemmas.List.{take_all}
use Rattle.widetext_requests.specs.declared.arguments.Request.{Request}
use Rattle.widetext_requests.specs.declared.arguments.Request.TheVariants.{Ends, Edit}
use Rattle.widetext_base.specs.Command.{AsksForNoUtf8}
use Rattle.widetext_requests.specs.Command.{AsksForEnds, AsksForEdits, IsEditOf, IsEndsOf, IsAskedBy, AreRead, NamesUnits}

no_utf8_of_three : {A : Type 0} (word units calls : String A) → AsksForNoUtf8 (word ∷ units ∷ calls ∷ [])
no_utf8_of_three word units calls None = λ asks. asks
no_utf8_of_three word units calls (Some policy) = λ asks. asks

pub ends_no_utf8 : {A : Type 0} (words : List (String A)) → AsksForEnds words → AsksForNoUtf8 words
ends_no_utf8 [] asks = absurd asks
ends_no_utf8 (word ∷ []) asks = absurd asks
ends_no_utf8 (word ∷ units ∷ []) asks = absurd asks
ends_no_utf8 (word ∷ units ∷ calls ∷ []) asks = no_utf8_of_three word units calls
ends_no_utf8 (word ∷ units ∷ calls ∷ fourth ∷ others) asks = absurd asks

first_letters : (e u : ℕ) → e ≡ u → e < 110 → 110 < u → ⊥
first_letters e u same low high = absurd (omega arith)

edit_is_no_utf8 : (word : List ℕ) → word ≡ codes "edit" → word ≡ codes "utf8" → ⊥
edit_is_no_utf8 word edit utf8 = first_letters 101 117 (ap (λ (bs : List ℕ). get_or bs 0 0) (sym edit ∙ utf8)) (omega arith) (omega arith)

no_utf8_of_two : {A : Type 0} (word text : String A) → string_bytes word ≡ codes "edit" → AsksForNoUtf8 (word ∷ text ∷ [])
no_utf8_of_two word text edit None = λ asks. asks
no_utf8_of_two word text edit (Some policy) = λ asks. edit_is_no_utf8 (string_bytes word) edit asks.0

no_utf8_of_more : {A : Type 0} (word text third : String A) (others : List (String A)) → AsksForNoUtf8 (word ∷ text ∷ third ∷ others)
no_utf8_of_more word text third others None = λ asks. asks
no_utf8_of_more word text third others (Some policy) = λ asks. asks

pub edits_no_utf8 : {A : Type 0} (words : List (String A)) → AsksForEdits words → AsksForNoUtf8 words
edits_no_utf8 [] asks = absurd asks
edits_no_utf8 (word ∷ []) asks = absurd asks
edits_no_utf8 (word ∷ text ∷ []) asks = no_utf8_of_two word text asks
edits_no_utf8 (word ∷ text ∷ third ∷ others) asks = no_utf8_of_more word text third others

-- The arguments of a request of `edit` ask for it.
pub asked_edit : {A E : Type 0} (words : List (String A)) (word first : String A) (text : List ℕ) (r : Result (Option Request) E) → 2 ≤ length words → word ≡ get_or words 0 word → first ≡ get_or words 1 first
    → string_bytes word ≡ codes "edit" → text ≡ string_bytes first → IfOk r (λ o. IfSome o (IsEditOf text (take (length words - 2) (drop 2 words)))) → IfOk r (λ o. IfSome o (IsAskedBy words))
asked_edit [] word first text r long word_is first_is edit same is = absurd (omega arith)
asked_edit (w ∷ []) word first text r long word_is first_is edit same is = absurd (omega arith)
asked_edit (w ∷ f ∷ rest) word first text (Err e) long word_is first_is edit same is = tt
asked_edit (w ∷ f ∷ rest) word first text (Ok None) long word_is first_is edit same is = tt
asked_edit (w ∷ f ∷ rest) word first text (Ok (Some (Ends us ends))) long word_is first_is edit same is = absurd is
asked_edit (w ∷ f ∷ rest) word first text (Ok (Some (Edit t read))) long word_is first_is edit same is =
    let all : take (length (w ∷ f ∷ rest) - 2) rest ≡ rest = take_all _ rest (omega arith) in
    let read_of : AreRead (take (length (w ∷ f ∷ rest) - 2) rest) read.items = is.1 in
    (ap string_bytes (sym word_is) ∙ edit, ap string_bytes (sym first_is) ∙ sym same ∙ is.0, subst (λ words. AreRead words read.items) all read_of)

letters_apart : (a b : ℕ) → a ≡ b → a < b → ⊥
letters_apart a b same less = absurd (omega arith)

-- A request of three arguments that begin with `ends` is one of `ends`.
pub asked_ends : {A E : Type 0} (words : List (String A)) (word units calls : String A) (u c : List ℕ) (r : Result (Option Request) E) → 3 ≤ length words → length words < 4
    → word ≡ get_or words 0 word → units ≡ get_or words 1 units → calls ≡ get_or words 2 calls → string_bytes word ≡ codes "ends" → u ≡ string_bytes units → c ≡ string_bytes calls
    → ((request : Request) → IsEndsOf u c request → IfOk r (λ o. IsSome o)) → (request : Request) → IsAskedBy words request → IfOk r (λ o. IsSome o)
asked_ends [] word units calls u c r long short word_is units_is calls_is ends u_is c_is complete request asked = absurd (omega arith)
asked_ends (w ∷ []) word units calls u c r long short word_is units_is calls_is ends u_is c_is complete request asked = absurd (omega arith)
asked_ends (w ∷ x ∷ []) word units calls u c r long short word_is units_is calls_is ends u_is c_is complete request asked = absurd (omega arith)
asked_ends (w ∷ x ∷ y ∷ z ∷ rest) word units calls u c r long short word_is units_is calls_is ends u_is c_is complete request asked = absurd (omega arith)
asked_ends (w ∷ x ∷ y ∷ []) word units calls u c r long short word_is units_is calls_is ends u_is c_is complete (Edit t read) asked =
    absurd (letters_apart 100 110 (ap (λ (bs : List ℕ). get_or bs 1 0) (sym asked.0 ∙ ap string_bytes (sym word_is) ∙ ends)) (omega arith))
asked_ends (w ∷ x ∷ y ∷ []) word units calls u c r long short word_is units_is calls_is ends u_is c_is complete (Ends us fs) asked =
    let named = subst (λ bs. NamesUnits bs us.items) (ap string_bytes (sym units_is) ∙ sym u_is) asked.1 in
    complete (Ends us fs) (named, c_is ∙ ap string_bytes calls_is ∙ asked.2)
