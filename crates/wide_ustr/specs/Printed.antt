-- The view that is printed.
use Rattle.wide_ustr.specs.declared.view.UStr.{UStr}
use Rattle.wide_ustr.specs.declared.display.Display.{Display}
use Rattle.wide_ustr.specs.declared.display.DisplaySkipping.{DisplaySkipping}

module _ {C : Type 0} where
  -- The view that a `Display` prints.
  abbrev pub displayed : Display C → UStr C
  displayed d = d.view

  -- The view that a `DisplaySkipping` prints.
  abbrev pub displayed_skipping : DisplaySkipping C → UStr C
  displayed_skipping d = d.view
