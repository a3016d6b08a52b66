use Rattle.std.proofs.Common.{◌≡◌, true, false, take}
use Rattle.vt_server.specs.shown.Screens.{KeepsScreen}
use Rattle.vt_server.specs.States.{state_of, TakesInputs}
use Rattle.vt_server.proofs.terminal.Terminal.run.Given as goal

abbrev pub invariant-loop-at : goal.invariant-loop-at
invariant-loop-at l = record {
  taken : TakesInputs (state_of l.fn.self) (take l.at l.inputs) (state_of l.self) l.fn.outputs.items l.outputs.items;
  lost : (state_of l.fn.self).lost ≡ true → (state_of l.self).lost ≡ true;
  kept : l.redraws ≡ false → KeepsScreen (state_of l.fn.self) (state_of l.self);
  first : l.at ≡ 0 → l.self.redraws ≡ l.fn.self.redraws × (l.redraws ≡ false);
}
