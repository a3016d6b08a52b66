-- What is late at a time is late at each later one.
use Rattle.std.proofs.Common.{◌≡◌, ◌⊎◌, inl, inr, ℕ, ◌<◌, ◌≤◌, ◌^◌, max, Bool, true, false, cond, is_some, List, [], ◌∷◌, Option, Some, None, refl, sym, ◌∙◌, arith, lt-ltb}
use Rattle.std.proofs.lemmas.Bool.{ltb-true, false≢true, true≢false}
use Rattle.vt_can.specs.Assigned.{TP_TIMEOUT, ETP_TIMEOUT, SENDER_TIMEOUT}
use Rattle.vt_can.specs.declared.transport.sessions.Timed.{Timed}
use Rattle.vt_can.specs.transport.FirstTimes.{IsFirstTime}
use Rattle.vt_can.specs.transport.Sessions.{is_overdue}
use Rattle.vt_names.specs.Registry.{Set}
use Rattle.vt_node.specs.Watches.{is_silent, first_silent_of, SomeAwaited, SomeSilent}
use Rattle.vt_server.specs.frame.Deadlines.{HasOverdueAt, IsDue, IsLate, is_settled}
use Rattle.vt_server.specs.state.AddressStates.{AddressState}
use Rattle.vt_server.specs.Terminals.{State}

overdue-later : {T : Type 0} (timeout a b : ℕ) (o : Option (Timed T)) → a ≤ b → is_overdue timeout a o ≡ true → is_overdue timeout b o ≡ true
overdue-later timeout a b None le is = absurd (false≢true is)
overdue-later timeout a b (Some timed) le is = let late = ltb-true _ _ is in lt-ltb _ _ (omega (arith, le, late))

silent-later : (a b : ℕ) (o : Option ℕ) → a ≤ b → is_silent a o ≡ true → is_silent b o ≡ true
silent-later a b None le is = absurd (false≢true is)
silent-later a b (Some last) le is = let late = ltb-true _ _ is in lt-ltb _ _ (omega (arith, le, late))

some-cond : (b c : Bool) (address : ℕ) (x y : Option ℕ) → (b ≡ true → c ≡ true) → (is_some x ≡ true → is_some y ≡ true)
    → is_some (cond b (Some address) x) ≡ true → is_some (cond c (Some address) y) ≡ true
some-cond b true address x y first rest is = refl
some-cond true false address x y first rest is = absurd (false≢true (first refl))
some-cond false false address x y first rest is = rest is

sets-later : (heard : ℕ → Option ℕ) (sets : List Set) (a b : ℕ) → a ≤ b → SomeSilent heard sets a → SomeSilent heard sets b
sets-later heard [] a b le is = absurd (false≢true is)
sets-later heard (set ∷ sets) a b le is =
    some-cond (is_silent a (heard set.address)) (is_silent b (heard set.address)) set.address (first_silent_of a heard sets) (first_silent_of b heard sets)
    (silent-later a b (heard set.address) le) (sets-later heard sets a b le) is

places-later : (places : ℕ → AddressState) (a b : ℕ) → a ≤ b → HasOverdueAt places a → HasOverdueAt places b
places-later places a b le (inl (inl some)) = inl (inl (some.0, overdue-later TP_TIMEOUT a b (places some.0).tp le some.1))
places-later places a b le (inl (inr some)) = inl (inr (some.0, overdue-later ETP_TIMEOUT a b (places some.0).etp le some.1))
places-later places a b le (inr some) = inr (some.0, overdue-later SENDER_TIMEOUT a b (places some.0).sending le some.1)

pub late-later : (s : State) (a b : ℕ) → a ≤ b → IsLate s a → IsLate s b
late-later s a b le (inl some) = inl (places-later s.places a b le some)
late-later s a b le (inr some) = inr (sets-later (λ a. (s.places a).heard) s.sets a b le some)

-- ---- the first time at which something is due

-- Something is due only if it is late, in a settled state in which no address waits for its time.
module _ (s : State) (settled : is_settled s ≡ true) (heard : SomeAwaited (λ a. (s.places a).heard) → ⊥) where
  due-late : (time : ℕ) → IsDue s time → IsLate s (max s.now time)
  due-late time (is, inl unsettled) = absurd (true≢false (sym settled ∙ unsettled))
  due-late time (is, inr (inl some)) = absurd (heard some)
  due-late time (is, inr (inr late)) = late

  pub due-never : s.now < 2 ^ 64 → IsFirstTime (IsLate s) None → IsFirstTime (IsDue s) None
  due-never small never = λ time less due. never (max s.now time) (omega (arith, small, less)) (due-late time due)

  pub due-now : (late : ℕ) → s.lost ≡ false → late ≤ s.now → IsFirstTime (IsLate s) (Some late) → IsFirstTime (IsDue s) (Some 0)
  due-now late lost before first =
      (omega arith, ((lost, inr (inr (late-later s late (max s.now 0) (omega (arith, before)) first.1.0))), λ time less. absurd (omega (arith, less))))

  pub due-later : (late : ℕ) → s.lost ≡ false → s.now < late → IsFirstTime (IsLate s) (Some late) → IsFirstTime (IsDue s) (Some late)
  due-later late lost after first = (
    first.0,
    (
      (lost, inr (inr (late-later s late (max s.now late) (omega (arith, after)) first.1.0))),
      λ time less due. first.1.1 (max s.now time) (omega (arith, after, less)) (due-late time due),
    ),
  )

pub due-lost : (s : State) → s.lost ≡ true → IsFirstTime (IsDue s) None
due-lost s lost = λ time less due. true≢false (sym lost ∙ due.0)

pub due-at_once : (s : State) → s.lost ≡ false → (is_settled s ≡ false) ⊎ SomeAwaited (λ a. (s.places a).heard) → IsFirstTime (IsDue s) (Some 0)
due-at_once s lost some = (omega arith, ((lost, chosen some), λ time less. absurd (omega (arith, less))))
  where
    chosen : (is_settled s ≡ false) ⊎ SomeAwaited (λ a. (s.places a).heard)
        → (is_settled s ≡ false) ⊎ (SomeAwaited (λ a. (s.places a).heard) ⊎ IsLate s (max s.now 0))
    chosen (inl unsettled) = inl unsettled
    chosen (inr awaited) = inr (inl awaited)
