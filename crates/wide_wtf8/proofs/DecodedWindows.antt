-- What follows a window of bytes that was decoded.
use Rattle.std.proofs.Common.{◌≡◌, ℕ, ◌+◌, ◌-◌, ◌≤◌, List, ◌∷◌, ◌++◌, Bool, true, false, length, length-append, length-drop, length-take-le, take, drop, sym, ap, ◌∙◌, arith}
use Rattle.std.proofs.lemmas.List.{drop-append-le, take-append-drop}
use Rattle.wide_forms.specs.Segmentation.{Fault}
use Rattle.wide_schemes.specs.Layouts.{StopsBefore}
use Rattle.wide_schemes.specs.Wtf8Items.{wtf8_items}
use Rattle.wide_schemes.specs.declared.layout.Layout.TheVariants.{Wtf8}
use Rattle.wide_schemes.specs.declared.progress.DecodeStop.{DecodeStop}
use Rattle.wide_schemes.specs.declared.progress.DecodeStop.TheVariants.{AtEnd, NoSpace, Incomplete, Fault as StopFault}
use Rattle.wide_wtf8.specs.Laws.{part-short}
use Rattle.wide_wtf8.specs.Parts.{IsNext, IsNextOf, IsPart, next_within}
use Rattle.wide_wtf8.specs.declared.decoding.Next.{Next}
use Rattle.wide_wtf8.specs.declared.decoding.Next.TheVariants.{End, More, Fault as AtFault}

-- Bytes that were split.
pub split-at : (bs window more : List ℕ) (end : ℕ) → window ≡ take end bs → more ≡ drop end bs → bs ≡ window ++ more
split-at bs window more end front back = sym (ap (λ xs. xs ++ more) front ∙ ap (λ xs. take end bs ++ xs) back ∙ take-append-drop end bs)

-- A part has no more units than bytes.
pub units-few : (h h' : Bool) (bs units : List ℕ) (read w : ℕ) → w ≤ length units → IsPart h bs read (take w units) h' → w ≤ read
units-few h h' bs units read w fits one = omega (arith, length-take-le w units fits, part-short h h' bs (take w units) read one)

-- The last window.
pub next-last : (h : Bool) (rest : List ℕ) (read w space : ℕ) (next : Next) → 3 ≤ space → w ≤ read → IsNext h rest (space - w) next → IsNextOf h rest read next
next-last h rest read w space End some few is = is
next-last h rest read w space More some few is = omega (arith, some, few, is.1)
next-last h rest read w space (AtFault len) some few is = is

-- A window that other bytes follow.
pub next-window : (h : Bool) (bs window more : List ℕ) (read w space : ℕ) (stop : DecodeStop) → bs ≡ window ++ more → read ≤ length window → 4 ≤ length window → length window + 2 ≤ space → w ≤ read → StopsBefore Wtf8 true h (drop read window) false (space - w) stop → IsNextOf h (drop read bs) read (next_within stop)
next-window h bs window more read w space AtEnd split within some fits few stop = omega (arith, some, within, length-drop read window, ap length stop)
next-window h bs window more read w space NoSpace split within some fits few stop = omega (arith, few, fits, some, stop.1)
next-window h bs window more read w space Incomplete split within some fits few stop = omega (arith, some, within, length-drop read window, stop.few)
next-window h bs window more read w space (StopFault unit len) split within some fits few stop =
    let rest : drop read bs ≡ drop read window ++ more = ap (drop read) split ∙ drop-append-le read window more within in
    let beyond : drop len (drop read window) ++ more ≡ drop len (drop read bs) = sym (ap (drop len) rest ∙ drop-append-le len (drop read window) more stop.within) in
    record {
      unit = unit;
      some = stop.some;
      within = omega (arith, stop.within, ap length rest, length-append (drop read window) more);
      items = ap (wtf8_items h) rest ∙ stop.first more (λ l. absurd (cc l)) ∙ ap (λ xs. Fault unit ∷ wtf8_items h xs) beyond;
    }
