-- The results of a linear search for an ID, from the front.
use Rattle.std.proofs.Common.{◌≡◌, ℕ, suc, ◌+◌, Bool, true, false, cond, eqb, List, [], ◌∷◌, map, Option, Some, None, refl, sym, ap, subst, ◌∙◌, arith}
use Rattle.std.proofs.lemmas.Bool.{eqb-true}
use Rattle.std.specs.Prelude.{IfSome, IfNone}
use Rattle.std.specs.List.{position_from}
use Rattle.std.specs.Cmp.{unsigned_tied}
use Rattle.vt_kinds.specs.declared.object.Object.{Object}
use Rattle.vt_kinds.specs.Records.{seen}
use Rattle.vt_stores.specs.Stores.{IsPlace, seen_entry, object_at}

module _ {B : Type 0} where
  at_front : (q : ℕ) (e : ℕ × Object B) (es : List (ℕ × Object B)) → eqb q e.0 ≡ true → IsPlace (map seen_entry (e ∷ es)) q 0
  at_front q e es here = record {
    object = seen e.1;
    there = ap (λ (k : ℕ). Some (k, seen e.1)) (sym (eqb-true q e.0 here));
    found = ap (λ (b : Bool). cond b (Some (seen e.1)) (object_at (map seen_entry es) q)) (unsigned_tied q e.0 ∙ here);
  }

  behind : (q : ℕ) (e : ℕ × Object B) (es : List (ℕ × Object B)) (k : ℕ) → eqb q e.0 ≡ false → IsPlace (map seen_entry es) q k → IsPlace (map seen_entry (e ∷ es)) q (suc k)
  behind q e es k not_here at = record {
    object = at.object;
    there = at.there;
    found = ap (λ (b : Bool). cond b (Some (seen e.1)) (object_at (map seen_entry es) q)) (unsigned_tied q e.0 ∙ not_here) ∙ at.found;
  }

  by_case : (q i p : ℕ) (e : ℕ × Object B) (es : List (ℕ × Object B)) (b : Bool) → eqb q e.0 ≡ b
      → cond b (Some i) (position_from (λ e. eqb q e.0) (i + 1) es) ≡ Some p
      → (position_from (λ e. eqb q e.0) (i + 1) es ≡ Some p → (k : ℕ) × (p ≡ i + 1 + k) × IsPlace (map seen_entry es) q k)
      → (k : ℕ) × (p ≡ i + k) × IsPlace (map seen_entry (e ∷ es)) q k
  by_case q i p e es true is found later = (0, (let same : i ≡ p = cc in omega arith), at_front q e es is)
  by_case q i p e es false is found later =
      let rest = later found in
      (suc rest.0, (let same = rest.1 in omega arith), behind q e es rest.0 is rest.2)

  found_from : (q i p : ℕ) (es : List (ℕ × Object B)) → position_from (λ e. eqb q e.0) i es ≡ Some p → (k : ℕ) × (p ≡ i + k) × IsPlace (map seen_entry es) q k
  found_from q i p [] found = absurd cc
  found_from q i p (e ∷ es) found = by_case q i p e es (eqb q e.0) refl found (found_from q (i + 1) p es)

  none_by_case : (q i : ℕ) (e : ℕ × Object B) (es : List (ℕ × Object B)) (b : Bool) → eqb q e.0 ≡ b
      → cond b (Some i) (position_from (λ e. eqb q e.0) (i + 1) es) ≡ None
      → (position_from (λ e. eqb q e.0) (i + 1) es ≡ None → object_at (map seen_entry es) q ≡ None)
      → object_at (map seen_entry (e ∷ es)) q ≡ None
  none_by_case q i e es true is none later = absurd cc
  none_by_case q i e es false is none later =
      ap (λ (b : Bool). cond b (Some (seen e.1)) (object_at (map seen_entry es) q)) (unsigned_tied q e.0 ∙ is) ∙ later none

  none_from : (q i : ℕ) (es : List (ℕ × Object B)) → position_from (λ e. eqb q e.0) i es ≡ None → object_at (map seen_entry es) q ≡ None
  none_from q i [] none = refl
  none_from q i (e ∷ es) none = none_by_case q i e es (eqb q e.0) refl none (none_from q (i + 1) es)

  -- ---- a search that starts at index 0

  pub front_some : (q : ℕ) (es : List (ℕ × Object B)) (o : Option ℕ) → o ≡ position_from (λ e. eqb q e.0) 0 es → IfSome o (IsPlace (map seen_entry es) q)
  front_some q es (Some p) is =
      let at = found_from q 0 p es (sym is) in
      let same : at.0 ≡ p = omega (arith, at.1) in
      subst (λ (k : ℕ). IsPlace (map seen_entry es) q k) same at.2
  front_some q es None is = tt

  pub front_none : (q : ℕ) (es : List (ℕ × Object B)) (o : Option ℕ) → o ≡ position_from (λ e. eqb q e.0) 0 es → IfNone o (object_at (map seen_entry es) q ≡ None)
  front_none q es (Some p) is = tt
  front_none q es None is = none_from q 0 es (sym is)

  pub front_place : (q p : ℕ) (es : List (ℕ × Object B)) (o : Option ℕ) → o ≡ position_from (λ e. eqb q e.0) 0 es → o ≡ Some p → IsPlace (map seen_entry es) q p
  front_place q p es o is found = subst (λ (r : Option ℕ). IfSome r (IsPlace (map seen_entry es) q)) found (front_some q es o is)

  pub front_absent : (q : ℕ) (es : List (ℕ × Object B)) (o : Option ℕ) → o ≡ position_from (λ e. eqb q e.0) 0 es → o ≡ None → object_at (map seen_entry es) q ≡ None
  front_absent q es o is none = subst (λ (r : Option ℕ). IfNone r (object_at (map seen_entry es) q ≡ None)) none (front_none q es o is)
