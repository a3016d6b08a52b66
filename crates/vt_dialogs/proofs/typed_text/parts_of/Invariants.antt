use Rattle.std.proofs.Common.{◌≡◌, ◌++◌, take, drop}
use Rattle.vt_dialogs.specs.TypedTexts as texts
use Rattle.vt_dialogs.proofs.typed_text.parts_of.Given as goal

abbrev pub invariant-loop-at : goal.invariant-loop-at
invariant-loop-at l = record {
  whole : texts.whole_of l.text ≡ take l.at l.text ++ texts.whole_of (drop l.at l.text);
  fraction : texts.fraction_of l.text ≡ texts.fraction_of (drop l.at l.text);
}
