-- A run of several events leaves the same store as the events one after the other.
use Rattle.std.proofs.Common.{◌≡◌, ◌+◌, ◌++◌, ℕ, zero, suc, List, [], ◌∷◌, Option, Some, None, refl, sym, ap, ◌∙◌, arith, append_assoc}
use Rattle.std.proofs.lemmas.List.{append-nil}
use Rattle.std.proofs.lemmas.List.Sums.{sum_by-cons}
use Rattle.vt_commands.specs.declared.command.Command.{Command}
use Rattle.vt_commands.specs.declared.raising.Raised.{Raised}
use Rattle.vt_stores.specs.Stores.{ObjectMap, Objects}
use Rattle.vt_stores.specs.Shapes.{Shape, shape_of}
use Rattle.vt_verify.specs.Triggers.{listing_of}
use Rattle.vt_verify.specs.Budgets.{MacroCostsAreTotals, budget}
use Rattle.vt_verify.specs.Rules.{IsAcceptable}
use Rattle.vt_chains.specs.Limits.{terminal}
use Rattle.vt_effects.specs.Effects.{after}
use Rattle.vt_macros.specs.Machines.{event_commands, joined_all, Stuck, Spent, fault, End, Ended, Sticks, or_sticks, follow_ups, run, total_budget, run_of}
use Rattle.vt_effects.specs.Soundness.{shape_in}
use Rattle.vt_macros.specs.Runs.{EndInTurn, EndsBefore}
use Rattle.vt_effects.specs.Soundness.{IsSound}
use Rattle.vt_macros.proofs.RunsEnd.{run_none, run_step, runs_end}

-- the store at the end of a run
abbrev end_store : End → ObjectMap
end_store (Ended store left) = store
end_store (Sticks why store) = store

abbrev end_left : End → ℕ
end_left (Ended store left) = left
end_left (Sticks why store) = 0

-- ---- runs with more commands and more steps

never_spent : (f : Option Stuck) (m new : ObjectMap) (left : ℕ) → or_sticks f m (Sticks Spent m) ≡ Ended new left → ⊥
never_spent (Some why) m new left e = cc
never_spent None m new left e = cc

run_zero : (m : ObjectMap) (command : Command) (pending : List Command)
    → run zero m (command ∷ pending) ≡ or_sticks (fault (shape_in m) command) m (Sticks Spent m)
unfolding run
run_zero m command pending = refl

-- if one run ends after the same test, so does the other
goes_on : (f : Option Stuck) (m new : ObjectMap) (left : ℕ) (one other end : End) → (one ≡ Ended new left → other ≡ end) → or_sticks f m one ≡ Ended new left
    → or_sticks f m other ≡ end
goes_on (Some why) m new left one other end next ended = absurd cc
goes_on None m new left one other end next ended = next ended

-- After a run has ended, the commands after it run with the remaining steps.
run_on : (n left : ℕ) (m new : ObjectMap) (front rest : List Command) (more : ℕ) → run n m front ≡ Ended new left
    → run (n + more) m (front ++ rest) ≡ run (left + more) new rest
run_on n left m new [] rest more ended =
    let same : Ended m n ≡ Ended new left = sym (run_none n m) ∙ ended in
    ap (λ (k : ℕ). run (k + more) m rest) (ap end_left same) ∙ ap (λ (s : ObjectMap). run (left + more) s rest) (ap end_store same)
run_on zero left m new (c ∷ front) rest more ended =
    absurd (never_spent (fault (shape_in m) c) m new left (sym (run_zero m c front) ∙ ended))
run_on (suc n) left m new (c ∷ front) rest more ended =
    let later : run n (after m c) (follow_ups m c ++ front) ≡ Ended new left → run (n + more) (after m c) (follow_ups m c ++ (front ++ rest)) ≡ run (left + more) new rest =
    λ e. ap (run (n + more) (after m c)) (sym (append_assoc (follow_ups m c) front rest)) ∙ run_on n left (after m c) new (follow_ups m c ++ front) rest more e in
    ap (λ (k : ℕ). run k m (c ∷ (front ++ rest))) (omega arith)
    ∙ run_step (n + more) m c (front ++ rest)
    ∙ goes_on (fault (shape_in m) c) m new left (run n (after m c) (follow_ups m c ++ front)) (run (n + more) (after m c) (follow_ups m c ++ (front ++ rest)))
    (run (left + more) new rest) later (sym (run_step n m c front) ∙ ended)

-- ---- events

-- The run of one event, and then of further events.
both_run : (s : Shape) (m middle new : ObjectMap) (r : Raised) (rs : List Raised) (left rest : ℕ) → run (total_budget s (r ∷ [])) m (joined_all s (r ∷ [])) ≡ Ended middle left
    → run (total_budget s rs) middle (joined_all s rs) ≡ Ended new rest → run (total_budget s (r ∷ rs)) m (joined_all s (r ∷ rs)) ≡ Ended new (rest + left)
both_run s m middle new r rs left rest first second =
    let cost : Raised → ℕ = λ x. budget s (listing_of x).id (listing_of x).event in
    let budgets : total_budget s (r ∷ rs) ≡ total_budget s (r ∷ []) + total_budget s rs = omega (arith, sum_by-cons cost r rs, sum_by-cons cost r []) in
    let fronts : joined_all s (r ∷ rs) ≡ joined_all s (r ∷ []) ++ joined_all s rs =
    ap (λ (front : List Command). front ++ joined_all s rs) (sym (append-nil (event_commands s (listing_of r)))) in
    ap (λ (n : ℕ). run n m (joined_all s (r ∷ rs))) budgets
    ∙ ap (run (total_budget s (r ∷ []) + total_budget s rs) m) fronts
    ∙ run_on (total_budget s (r ∷ [])) left m middle (joined_all s (r ∷ [])) (joined_all s rs) (total_budget s rs) first
    ∙ ap (λ (n : ℕ). run n middle (joined_all s rs)) (omega arith)
    ∙ ap (run (total_budget s rs + left) middle) (sym (append-nil (joined_all s rs)))
    ∙ run_on (total_budget s rs) rest middle new (joined_all s rs) [] left second
    ∙ run_none (rest + left) new

pub events_end_in_turn : (pool : Objects) (m new : ObjectMap) (left : ℕ) (rs : List Raised) → IsAcceptable terminal pool → MacroCostsAreTotals (shape_of pool)
    → shape_in m ≡ shape_of pool → IsSound m → run_of m rs ≡ Ended new left → EndInTurn m rs new
events_end_in_turn pool m new left [] acceptable totals is sound ended = ap end_store (sym ended ∙ run_none 0 m)
events_end_in_turn pool m new left (r ∷ rs) acceptable totals is sound ended =
    let own = runs_end pool m (r ∷ []) acceptable totals is sound in
    let shape : shape_in own.new ≡ shape_of pool = own.shape ∙ is in
    let others = runs_end pool own.new rs acceptable totals shape own.sound in
    let second : run (total_budget (shape_in m) rs) own.new (joined_all (shape_in m) rs) ≡ Ended others.new others.left =
    ap (λ (s : Shape). run (total_budget s rs) own.new (joined_all s rs)) (sym own.shape) ∙ others.ended in
    let both = both_run (shape_in m) m own.new others.new r rs own.left others.left own.ended second in
    let same : others.new ≡ new = ap end_store (sym both ∙ ended) in (
      own,
      events_end_in_turn pool own.new new others.left rs acceptable totals shape own.sound (others.ended ∙ ap (λ (s : ObjectMap). Ended s others.left) same),
    )

-- ---- pending commands

pub events_end_before_pending : (pool : Objects) (m : ObjectMap) (r : Raised) (pending : List Command) (more : ℕ) → IsAcceptable terminal pool
    → MacroCostsAreTotals (shape_of pool) → shape_in m ≡ shape_of pool → IsSound m → EndsBefore m r pending more
events_end_before_pending pool m r pending more acceptable totals is sound =
    let own = runs_end pool m (r ∷ []) acceptable totals is sound in
    let steps = total_budget (shape_in m) (r ∷ []) in record {
      own = own;
      goes_on = ap (λ (front : List Command). run (steps + more) m (front ++ pending)) (sym (append-nil (event_commands (shape_in m) (listing_of r))))
          ∙ run_on steps own.left m own.new (joined_all (shape_in m) (r ∷ [])) pending more own.ended;
    }
