-- Open questions are in the order of their times.
use Rattle.std.proofs.Common.{◌≡◌, ℕ, ◌+◌, ◌≤◌, List, [], ◌∷◌, ◌++◌, refl, arith}
use Rattle.std.specs.List.{AllByRecursion}
use Rattle.log_answers.specs.declared.said.Said.{Said}
use Rattle.log_answers.specs.Matches.{AreOpen}

-- messages of this line and this time
abbrev pub AreAt : (line now : ℕ) → List Said → Type 0
AreAt line now messages = AllByRecursion (λ (said : Said). (said.line ≡ line) × (said.time ≡ now)) messages

all-append : {X : Type 0} (P : X → Type 0) (xs ys : List X) → AllByRecursion P xs → AllByRecursion P ys → AllByRecursion P (xs ++ ys)
all-append P [] ys front back = back
all-append P (x ∷ xs) ys front back = (front.0, all-append P xs ys front.1 back)

all-front : {X : Type 0} (P : X → Type 0) (xs ys : List X) → AllByRecursion P (xs ++ ys) → AllByRecursion P xs
all-front P [] ys all = tt
all-front P (x ∷ xs) ys all = (all.0, all-front P xs ys all.1)

all-back : {X : Type 0} (P : X → Type 0) (xs ys : List X) → AllByRecursion P (xs ++ ys) → AllByRecursion P ys
all-back P [] ys all = all
all-back P (x ∷ xs) ys all = all-back P xs ys all.1

no-earlier : (time line now : ℕ) (messages : List Said) → time ≤ now → AreAt line now messages → AllByRecursion (λ (later : Said). time ≤ later.time) messages
no-earlier time line now [] before at = tt
no-earlier time line now (x ∷ xs) before at = ((let first = at.0 in let is = first.1 in omega arith), no-earlier time line now xs before at.1)

asked : (line now : ℕ) (messages : List Said) → AreAt line now messages → AreOpen line now messages
asked line now [] at = tt
asked line now (x ∷ xs) at =
    let first = at.0 in let line_is = first.0 in let time_is = first.1 in
    (omega arith, omega arith, no-earlier x.time line now xs (omega arith) at.1, asked line now xs at.1)

-- New questions are open behind those that are open.
pub open-asked : (line now line' now' : ℕ) (old new : List Said) → line ≤ line' → now ≤ now' → AreOpen line now old → AreAt line' now' new → AreOpen line' now' (old ++ new)
open-asked line now line' now' [] new lines times open_ at = asked line' now' new at
open-asked line now line' now' (x ∷ xs) new lines times open_ at =
    let its_line = open_.0 in let its_time = open_.1 in (
      omega arith,
      omega arith,
      all-append (λ (later : Said). x.time ≤ later.time) xs new open_.2 (no-earlier x.time line' now' new (omega arith) at),
      open-asked line now line' now' xs new lines times open_.3 at,
    )

-- Without the oldest the others are still open.
pub open-back : (line now : ℕ) (front back : List Said) → AreOpen line now (front ++ back) → AreOpen line now back
open-back line now [] back open_ = open_
open-back line now (x ∷ xs) back open_ = open-back line now xs back open_.3

pub open-removed : (line now : ℕ) (front back : List Said) (question : Said) → AreOpen line now (front ++ question ∷ back) → AreOpen line now (front ++ back)
open-removed line now [] back question open_ = open_.3
open-removed line now (x ∷ xs) back question open_ = (
  open_.0,
  open_.1,
  all-append (λ (later : Said). x.time ≤ later.time) xs back (all-front (λ (later : Said). x.time ≤ later.time) xs (question ∷ back) open_.2) (all-back (λ (later : Said). x.time ≤ later.time) xs (question ∷ back) open_.2).1,
  open-removed line now xs back question open_.3,
)

-- one of the open questions
pub open-one : (line now : ℕ) (front back : List Said) (question : Said) → AreOpen line now (front ++ question ∷ back) → question.line ≤ line
open-one line now [] back question open_ = open_.0
open-one line now (x ∷ xs) back question open_ = open-one line now xs back question open_.3

-- ---- in time

abbrev pub AreInTime : (wait now : ℕ) → List Said → Type 0
AreInTime wait now questions = AllByRecursion (λ (question : Said). now ≤ question.time + wait) questions

later-in-time : (wait now time : ℕ) (questions : List Said) → now ≤ time + wait → AllByRecursion (λ (later : Said). time ≤ later.time) questions → AreInTime wait now questions
later-in-time wait now time [] first later = tt
later-in-time wait now time (x ∷ xs) first later = ((let its = later.0 in omega arith), later-in-time wait now time xs first later.1)

-- If the oldest question is in time, all are.
pub all-in-time : (wait line now' now : ℕ) (questions : List Said) → AreOpen line now' questions → ((question : Said) (rest : List Said) → questions ≡ question ∷ rest → now ≤ question.time + wait)
    → AreInTime wait now questions
all-in-time wait line now' now [] open_ first = tt
all-in-time wait line now' now (x ∷ xs) open_ first = (first x xs refl, later-in-time wait now x.time xs (first x xs refl) open_.2)

pub asked-in-time : (wait line now : ℕ) (messages : List Said) → AreAt line now messages → AreInTime wait now messages
asked-in-time wait line now [] at = tt
asked-in-time wait line now (x ∷ xs) at = ((let first = at.0 in let is = first.1 in omega arith), asked-in-time wait line now xs at.1)

pub in-time-append : (wait now : ℕ) (old new : List Said) → AreInTime wait now old → AreInTime wait now new → AreInTime wait now (old ++ new)
in-time-append wait now old new = all-append (λ (question : Said). now ≤ question.time + wait) old new

pub in-time-one : (wait now : ℕ) (front back : List Said) (question : Said) → AreInTime wait now (front ++ question ∷ back) → now ≤ question.time + wait
in-time-one wait now front back question all = (all-back (λ (it : Said). now ≤ it.time + wait) front (question ∷ back) all).0
