-- A run of inputs grows by one input at a time.
use Rattle.std.proofs.Common.{◌≡◌, Bool, true, false, ◌||◌, cond, ◌<◌, ℕ, suc, ◌+◌, List, [], ◌∷◌, ◌++◌, length, take, get_or, refl, sym, ap, subst, ◌∙◌, append-nil, append_assoc, arith}
use Rattle.std.proofs.Math.Seq.{take-suc}
use Rattle.vt_server.specs.Judgements.{IsEventOf, AreEventsOf, IsJudgedRight, AreJudgedRight}
use Rattle.vt_server.specs.Outputs.{outputs_of}
use Rattle.vt_server.specs.States.{TakesInput, TakesInputs}
use Rattle.vt_server.specs.Steps.{JudgedInput, FrameAt, ActionAt, step, no_step, step_frame, step_action, after_all, sent_by_all}
use Rattle.vt_server.specs.Terminals.{State}
use Rattle.vt_server.specs.declared.input.Input.{Input}
use Rattle.vt_server.specs.declared.output.Output.{Output}
use Rattle.vt_server.proofs.lemmas.frame.FrameEffect.{outputs-append}

after-more : (s : State) (es : List JudgedInput) (e : JudgedInput) → after_all s (es ++ e ∷ []) ≡ (step (after_all s es) e).after
after-more s [] e = refl
after-more s (d ∷ es) e = after-more (step s d).after es e

sent-more : (s : State) (es : List JudgedInput) (e : JudgedInput) → sent_by_all s (es ++ e ∷ []) ≡ sent_by_all s es ++ (step (after_all s es) e).sent
sent-more s [] e = append-nil (step s e).sent
sent-more s (d ∷ es) e =
    ap (λ l. (step s d).sent ++ l) (sent-more (step s d).after es e)
    ∙ sym (append_assoc (step s d).sent (sent_by_all (step s d).after es) (step (after_all (step s d).after es) e).sent)

right-more : (s : State) (es : List JudgedInput) (e : JudgedInput) → AreJudgedRight s es → IsJudgedRight (after_all s es) e → AreJudgedRight s (es ++ e ∷ [])
right-more s [] e are is = (is, tt)
right-more s (d ∷ es) e are is = (are.0, right-more (step s d).after es e are.1 is)

events-more : (xs : List Input) (es : List JudgedInput) (x : Input) (e : JudgedInput) → AreEventsOf xs es → IsEventOf x e → AreEventsOf (xs ++ x ∷ []) (es ++ e ∷ [])
events-more [] [] x e are is = (is, tt)
events-more [] (d ∷ es) x e are is = absurd are
events-more (y ∷ xs) [] x e are is = absurd are
events-more (y ∷ xs) (d ∷ es) x e are is = (are.0, events-more xs es x e are.1 is)

-- The run without inputs changes nothing.
pub run-none : (s : State) (outputs : List Output) → TakesInputs s [] s outputs outputs
run-none s outputs = record { events = []; are_inputs = tt; judged = tt; state = refl; sent = sym (append-nil outputs) }

-- A terminal that lost its address stays unchanged.
pub lost-stays : (s t : State) (x : Input) (old new : List Output) → s.lost ≡ true → TakesInput s x t old new → t.lost ≡ true
lost-stays s t x old new lost takes = ap (λ (r : State). r.lost) (takes.state ∙ still takes.event) ∙ lost
  where
    still : (e : JudgedInput) → (step s e).after ≡ s
    still (FrameAt time frame verdict) = ap (λ b. (cond b (no_step s) (step_frame s time frame verdict)).after) lost
    still (ActionAt action shown) = ap (λ b. (cond b (no_step s) (step_action s action shown)).after) lost

-- A flag joined with false is unchanged.
pub first-alone : (a b : Bool) → b ≡ false → (a || b) ≡ a
first-alone true b none = refl
first-alone false b none = none

next-place : (n : ℕ) → n + 1 ≡ suc n
next-place n = omega arith

module _ (s t u : State) (inputs : List Input) (at : ℕ) (x : Input) (old mid new : List Output) (more : at < length inputs) (is : x ≡ get_or inputs at x) where
  taken : take (at + 1) inputs ≡ take at inputs ++ x ∷ []
  taken = ap (λ (n : ℕ). take n inputs) (next-place at) ∙ take-suc inputs at x more ∙ ap (λ y. take at inputs ++ y ∷ []) (sym is)

  pub run-more : TakesInputs s (take at inputs) t old mid → TakesInput t x u mid new → TakesInputs s (take (at + 1) inputs) u old new
  run-more before now =
      let es = before.events in
      let e = now.event in
      let first = sent_by_all s es in
      let last = (step (after_all s es) e).sent in
      subst (λ xs. TakesInputs s xs u old new) (sym taken) (record {
        events = es ++ e ∷ [];
        are_inputs = events-more (take at inputs) es x e before.are_inputs now.is_input;
        judged = right-more s es e before.judged (subst (λ (r : State). IsJudgedRight r e) before.state now.judged);
        state = now.state ∙ ap (λ (r : State). (step r e).after) before.state ∙ sym (after-more s es e);
        sent =
            now.sent ∙ (λ i. before.sent i ++ outputs_of (step (before.state i) e).sent)
            ∙ append_assoc old (outputs_of first) (outputs_of last)
            ∙ ap (λ l. old ++ l) (sym (outputs-append first last))
            ∙ ap (λ l. old ++ outputs_of l) (sym (sent-more s es e));
      })
