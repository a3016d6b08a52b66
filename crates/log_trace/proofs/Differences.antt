-- The difference of two lists of lines, as far as its text is written.
use Rattle.std.proofs.Common.{◌≡◌, ◌∙◌, ◌+◌, ◌-◌, ◌≤◌, ◌<◌, ℕ, suc, min, false, List, [], ◌∷◌, ◌++◌, length, get_or, take, drop, refl, sym, ap, subst, append_assoc, arith}
use Rattle.std.specs.Set.{is_member}
use Rattle.std.specs.Str.{bytes_eq}
use Rattle.std.proofs.Math.Seq.{take-length}
use Rattle.std.proofs.lemmas.List.{drop-drop, drop_at, drop_more, get_or-drop, length-append, length-drop, length-take, length-take-le, take_more, take-append-drop}
use Rattle.std.proofs.lemmas.List.Folds.{list_any-append}
use Rattle.log_trace.specs.Changes.{AreChanges, AreNotAmong, IsNext, come, gone, replaced, stays}
use Rattle.log_trace.specs.Lines.{Gains}

-- The text says how the lines before two places differ: with the changes behind them it is that of the changes of all lines.
abbrev pub Leads : (old new : List (List ℕ)) → (start : List ℕ) → (left to_come : List (List ℕ)) → (text : List ℕ) → Type 0
Leads old new start left to_come text = (rest : List ℕ) → AreChanges left to_come rest → Gains (AreChanges old new) start (text ++ rest)

-- The same at a place in the new lines: those from another place on up to it come.
pub record HasCome (old new : List (List ℕ)) (start : List ℕ) (gone_to come_to place : ℕ) (text : List ℕ) : Type 0 where
  pub within_old : gone_to ≤ length old
  pub before : come_to ≤ place
  pub others : AreNotAmong (drop gone_to old) (take (place - come_to) (drop come_to new))
  pub leads : Leads old new start (drop gone_to old) (drop come_to new) text

none_among : (others : List (List ℕ)) → AreNotAmong others []
none_among others = refl

pub nothing_yet : (old new : List (List ℕ)) (start : List ℕ) → HasCome old new start 0 0 0 start
nothing_yet old new start = record {
  within_old = omega arith;
  before = omega arith;
  others = subst (λ (n : ℕ). AreNotAmong (drop 0 old) (take n (drop 0 new))) nothing (none_among (drop 0 old));
  leads = λ rest changes. record { part = rest; part_is = changes; whole = refl };
}
  where
    nothing : 0 ≡ 0 - 0
    nothing = omega arith

-- the lines from a place on: those before another place, the one at it, and those behind
lines_at : (lines : List (List ℕ)) (from at : ℕ) → from ≤ at → at < length lines → drop from lines ≡ take (at - from) (drop from lines) ++ get_or lines at [] ∷ drop (at + 1) lines
lines_at lines from at before inside =
    let there : from + (at - from) ≡ at = omega (arith, before) in
    sym (take-append-drop (at - from) (drop from lines))
    ∙ ap (λ (ls : List (List ℕ)). take (at - from) (drop from lines) ++ ls) (drop-drop (at - from) from lines ∙ ap (λ (n : ℕ). drop n lines) there ∙ drop_more lines at [] inside)

-- the lines from a place up to another, and one more
taken_more : (lines : List (List ℕ)) (from at : ℕ) → from ≤ at → at < length lines → take (at + 1 - from) (drop from lines) ≡ take (at - from) (drop from lines) ++ get_or lines at [] ∷ []
taken_more lines from at before inside =
    let len : length (drop from lines) ≡ length lines - from = length-drop from lines in
    let more : at + 1 - from ≡ at - from + 1 = omega (arith, before) in
    let there : from + (at - from) ≡ at = omega (arith, before) in
    ap (λ (n : ℕ). take n (drop from lines)) more ∙ take_more (drop from lines) (at - from) [] (omega (arith, before, inside, len))
    ∙ ap (λ (l : List ℕ). take (at - from) (drop from lines) ++ l ∷ []) (get_or-drop from lines (at - from) [] ∙ ap (λ (n : ℕ). get_or lines n []) there)

-- A line that is not left in the old screen comes.
pub comes_next : (old new : List (List ℕ)) (line start text : List ℕ) (gone_to come_to place : ℕ) → place < length new → get_or new place [] ≡ line
    → is_member bytes_eq (drop gone_to old) line ≡ false
    → HasCome old new start gone_to come_to place text → HasCome old new start gone_to come_to (place + 1) text
comes_next old new line start text gone_to come_to place inside here absent so_far = record {
  within_old = so_far.within_old;
  before = (let before = so_far.before in omega (arith, before));
  others =
      let before : List (List ℕ) = take (place - come_to) (drop come_to new) in
      subst (AreNotAmong (drop gone_to old)) (sym (taken_more new come_to place so_far.before inside ∙ ap (λ (l : List ℕ). before ++ l ∷ []) here))
      (list_any-append (is_member bytes_eq (drop gone_to old)) before (line ∷ []) ∙ rw (so_far.others, absent) refl);
  leads = so_far.leads;
}

leads_on : (old new left to_come goes comes behind later : List (List ℕ)) (line start text : List ℕ) → left ≡ goes ++ line ∷ behind → to_come ≡ comes ++ line ∷ later
    → AreNotAmong left comes → is_member bytes_eq goes line ≡ false → Leads old new start left to_come text → Leads old new start behind later (text ++ gone goes ++ come comes)
leads_on old new left to_come goes comes behind later line start text left_is to_come_is others first leads rest changes =
    let more : AreChanges left to_come (gone goes ++ come comes ++ rest) =
    subst (λ (ls : List (List ℕ)). AreChanges ls to_come (gone goes ++ come comes ++ rest)) (sym left_is)
    (subst (λ (ls : List (List ℕ)). AreChanges (goes ++ line ∷ behind) ls (gone goes ++ come comes ++ rest)) (sym to_come_is)
    (stays goes comes line behind later rest (subst (λ (ls : List (List ℕ)). AreNotAmong ls comes) left_is others) first changes)) in
    subst (Gains (AreChanges old new) start) (regroup text (gone goes) (come comes) rest) (leads (gone goes ++ come comes ++ rest) more)
  where
    regroup : (a b c d : List ℕ) → a ++ (b ++ c ++ d) ≡ a ++ b ++ c ++ d
    regroup a b c d = sym (append_assoc a (b ++ c) d) ∙ ap (λ t. t ++ d) (sym (append_assoc a b c))

-- A line that is left in the old screen stays, and what is before it goes and comes.
pub stays_next : (old new : List (List ℕ)) (line start text last : List ℕ) (gone_to come_to place before : ℕ) → place < length new → get_or new place [] ≡ line
    → IsNext line (drop gone_to old) before
    → HasCome old new start gone_to come_to place text
    → last ≡ text ++ gone (take before (drop gone_to old)) ++ come (take (place - come_to) (drop come_to new))
    → HasCome old new start (gone_to + (before + 1)) (place + 1) (place + 1) last
stays_next old new line start text last gone_to come_to place before inside here next so_far is =
    let left : List (List ℕ) = drop gone_to old in
    let behind : next.0 ≡ drop (gone_to + (before + 1)) old = behind_next old line gone_to before next so_far.within_old in
    record {
      within_old = (let inside_old = next_inside old line gone_to before next so_far.within_old in omega (arith, inside_old));
      before = omega arith;
      others = subst (λ (n : ℕ). AreNotAmong (drop (gone_to + (before + 1)) old) (take n (drop (place + 1) new))) none (none_among (drop (gone_to + (before + 1)) old));
      leads = subst (Leads old new start (drop (gone_to + (before + 1)) old) (drop (place + 1) new)) (sym is)
          (subst (λ (ls : List (List ℕ)). Leads old new start ls (drop (place + 1) new) (text ++ gone (take before left) ++ come (take (place - come_to) (drop come_to new)))) behind
          (leads_on old new left (drop come_to new) (take before left) (take (place - come_to) (drop come_to new)) next.0 (drop (place + 1) new) line start text next.1
          (lines_at new come_to place so_far.before inside ∙ ap (λ (l : List ℕ). take (place - come_to) (drop come_to new) ++ l ∷ drop (place + 1) new) here) so_far.others next.2 so_far.leads));
    }
  where
    none : 0 ≡ place + 1 - (place + 1)
    none = omega arith

    next_inside : (old : List (List ℕ)) (line : List ℕ) (gone_to before : ℕ) → IsNext line (drop gone_to old) before → gone_to ≤ length old → gone_to + before < length old
    next_inside old line gone_to before next within =
        let len : length (drop gone_to old) ≡ length old - gone_to = length-drop gone_to old in
        let parts : length (drop gone_to old) ≡ length (take before (drop gone_to old)) + suc (length next.0) =
        ap length next.1 ∙ length-append (take before (drop gone_to old)) (line ∷ next.0) in
        let taken : length (take before (drop gone_to old)) ≡ min before (length (drop gone_to old)) = length-take before (drop gone_to old) in
        grind (arith, len, parts, taken, within)

    behind_next : (old : List (List ℕ)) (line : List ℕ) (gone_to before : ℕ) (next : IsNext line (drop gone_to old) before) → gone_to ≤ length old → next.0 ≡ drop (gone_to + (before + 1)) old
    behind_next old line gone_to before next within =
        let inside : gone_to + before < length old = next_inside old line gone_to before next within in
        let len : length (drop gone_to old) ≡ length old - gone_to = length-drop gone_to old in
        let taken : length (take before (drop gone_to old)) ≡ before = length-take-le before (drop gone_to old) (omega (arith, inside, len)) in
        let front : length (take before (drop gone_to old) ++ line ∷ []) ≡ before + 1 = length-append (take before (drop gone_to old)) (line ∷ []) ∙ ap (λ (n : ℕ). n + 1) taken in
        sym (drop_at (take before (drop gone_to old) ++ line ∷ []) next.0 (before + 1) front)
        ∙ ap (drop (before + 1)) (append_assoc (take before (drop gone_to old)) (line ∷ []) next.0 ∙ sym next.1)
        ∙ drop-drop (before + 1) gone_to old

-- No line is left in the new screen: what is before its end goes and comes.
pub ends : (old new : List (List ℕ)) (start text last : List ℕ) (gone_to come_to : ℕ) → HasCome old new start gone_to come_to (length new) text
    → last ≡ text ++ gone (drop gone_to old) ++ come (drop come_to new) → Gains (AreChanges old new) start last
ends old new start text last gone_to come_to so_far is =
    let len : length (drop come_to new) ≡ length new - come_to = length-drop come_to new in
    let all : take (length new - come_to) (drop come_to new) ≡ drop come_to new = ap (λ (n : ℕ). take n (drop come_to new)) (sym len) ∙ take-length (drop come_to new) in
    subst (Gains (AreChanges old new) start) (sym (append_assoc text (gone (drop gone_to old)) (come (drop come_to new))) ∙ sym is)
    (so_far.leads (gone (drop gone_to old) ++ come (drop come_to new))
    (replaced (drop gone_to old) (drop come_to new) (subst (AreNotAmong (drop gone_to old)) all so_far.others)))
