-- The IDs of missing objects, and objects in their place that include nothing.
use Rattle.std.proofs.Common.{◌≡◌, ℕ, ◌<◌, Bool, true, false, cond, not, eqb, List, [], ◌∷◌, ◌++◌, refl, sym, ap, subst, ◌∙◌, ◌⊎◌, inl, inr}
use Rattle.std.proofs.lemmas.Bool.{eqb-true}
use Rattle.std.proofs.lemmas.List.Elements.{Contains-append_left, Contains-append_right, Contains-push, Contains-push_cases}
use Rattle.std.specs.Prelude.{Contains}
use Rattle.std.specs.List.{IsDistinct, list_any, flat_map}
use Rattle.indexmap.specs.IndexSet.{insert_key}
use Rattle.indexmap.proofs.CallerLemmas.{Contains-insert_key}
use Rattle.vt_kinds.specs.Ids.{null_id}
use Rattle.vt_chains.proofs.Elements.{Contains-nil, Contains-head, Contains-tail, cons_case}
use Rattle.check_inspect.specs.declared.finding.ReferenceAt.{ReferenceAt}
use Rattle.check_inspect.specs.Lists.{all_failing}
use Rattle.check_inspect.specs.Missing.{AreMissingIds}

-- ---- the IDs of references

pub no_ids : (keys : List ℕ) → keys ≡ [] → IsDistinct eqb [] → AreMissingIds [] keys
no_ids keys none distinct = record {
  distinct = subst (IsDistinct eqb) (sym none) distinct;
  only = λ id inside. absurd (Contains-nil id (subst (λ (l : List ℕ). Contains l id) none inside));
  all = λ r inside named. absurd (Contains-nil r inside);
}

-- ---- one more reference

module _ (rs : List ReferenceAt) (keys : List ℕ) (r : ReferenceAt) (are : AreMissingIds rs keys) where
  pub skips_null : r.reference.id ≡ null_id → AreMissingIds (rs ++ r ∷ []) keys
  skips_null null = record {
    distinct = are.distinct;
    only = λ id inside. let from = are.only id inside in (from.0, (from.1.0, Contains-append_left rs (r ∷ []) from.1.0 from.1.1, from.1.2));
    all = λ s inside named. elim (Contains-push_cases rs r s inside) as (λ _. Contains keys s.reference.id) [
      | inl old ↦ are.all s old named
      | inr same ↦ absurd (named (ap (λ (t : ReferenceAt). t.reference.id) (sym same) ∙ null))
    ];
  }

  kept : (id : ℕ) (b : Bool) → Contains keys id → Contains (cond b keys (keys ++ r.reference.id ∷ [])) id
  kept id true inside = inside
  kept id false inside = Contains-append_left keys (r.reference.id ∷ []) id inside

  -- an ID after an insertion is an old one or the new one
  from_case : (id : ℕ) (b : Bool) → Contains (cond b keys (keys ++ r.reference.id ∷ [])) id → Contains keys id ⊎ (r.reference.id ≡ id)
  from_case id true inside = inl inside
  from_case id false inside = Contains-push_cases keys r.reference.id id inside

  pub puts_id : (new : List ℕ) → r.reference.id < null_id → new ≡ insert_key eqb keys r.reference.id → IsDistinct eqb new → AreMissingIds (rs ++ r ∷ []) new
  puts_id new named made distinct = record {
    distinct = distinct;
    only = λ id inside. elim (from_case id (list_any (eqb r.reference.id) keys) (subst (λ (l : List ℕ). Contains l id) made inside))
        as (λ _. (id < null_id) × ((s : ReferenceAt) × Contains (rs ++ r ∷ []) s × (s.reference.id ≡ id))) [
          | inl old ↦ let from = are.only id old in (from.0, (from.1.0, Contains-append_left rs (r ∷ []) from.1.0 from.1.1, from.1.2))
          | inr same ↦ (subst (λ (k : ℕ). k < null_id) same named, (r, Contains-push rs r, same))
        ];
    all = λ s inside there. subst (λ (l : List ℕ). Contains l s.reference.id) (sym made)
        (elim (Contains-push_cases rs r s inside) as (λ _. Contains (insert_key eqb keys r.reference.id) s.reference.id) [
          | inl old ↦ kept s.reference.id (list_any (eqb r.reference.id) keys) (are.all s old there)
          | inr same ↦ subst (λ (t : ReferenceAt). Contains (insert_key eqb keys r.reference.id) t.reference.id) same (Contains-insert_key eqb eqb-true keys r.reference.id)
        ]);
  }

-- ---- elements of lists

in_more : {X Y : Type 0} (f : X → List Y) (x : X) (xs : List X) (y : Y) → Contains (flat_map f xs) y → Contains (flat_map f (x ∷ xs)) y
in_more f x xs y inside = Contains-append_right (f x) (flat_map f xs) y inside

fails_case : {X : Type 0} (b : Bool) (test : X → Bool) (x y : X) (rest : List X) → test x ≡ b → Contains (cond (not b) (x ∷ rest) rest) y
    → (Contains rest y → test y ≡ false) → test y ≡ false
fails_case true test x y rest is inside later = later inside
fails_case false test x y rest is inside later = cons_case (test y ≡ false) x y rest inside (λ same. ap test (sym same) ∙ is) later

-- what is among all that fails does fail
pub failing_fails : {X : Type 0} (test : X → Bool) (xs : List X) (y : X) → Contains (all_failing test xs) y → test y ≡ false
failing_fails test [] y inside = absurd (Contains-nil y inside)
failing_fails test (x ∷ xs) y inside = fails_case (test x) test x y (all_failing test xs) refl inside (failing_fails test xs y)

-- what fails is among all that fails
pub fails_among : {X : Type 0} (test : X → Bool) (xs : List X) (y : X) → test y ≡ false → Contains xs y → Contains (all_failing test xs) y
fails_among test [] y fails inside = absurd (Contains-nil y inside)
fails_among test (x ∷ xs) y fails inside =
    cons_case (Contains (all_failing test (x ∷ xs)) y) x y xs inside
    (λ same. here x y xs fails same)
    (λ rest. there (test x) (fails_among test xs y fails rest))
  where
    here : (x y : _) (xs : _) → test y ≡ false → x ≡ y → Contains (all_failing test (x ∷ xs)) y
    here x y xs fails same =
        subst (λ (b : Bool). Contains (cond (not b) (x ∷ all_failing test xs) (all_failing test xs)) y) (sym (ap test same ∙ fails))
        (subst (λ z. Contains (x ∷ all_failing test xs) z) same (Contains-head x (all_failing test xs)))

    there : (b : Bool) → Contains (all_failing test xs) y → Contains (cond (not b) (x ∷ all_failing test xs) (all_failing test xs)) y
    there true h = h
    there false h = Contains-tail x y (all_failing test xs) h
