-- Levels that fall with each inclusion prove that no chain is too long.
use Rattle.std.proofs.Common.{◌≡◌, ℕ, zero, suc, ◌<◌, ◌≤◌, inl, inr, List, [], ◌∷◌, length, None, refl, sym, subst, ◌∙◌, arith}
use Rattle.std.specs.Prelude.{slice_index, slice_index_or, Contains}
use Rattle.std.specs.FinMap as finite
use Rattle.vt_stores.specs.Stores.{ObjectMap, IsPlace}
use Rattle.vt_chains.specs.Depths.{IsIdAt, IsBelow, IsClosed, AreDepths, ids_of, inclusions_of}
use Rattle.vt_chains.specs.Inclusions.{IsChain, IsShallow, IsTooDeep}
use Rattle.vt_chains.specs.Limits.{terminal}
use Rattle.vt_chains.proofs.InclusionsInStore.{IsSourced, sourced}
use Rattle.vt_chains.proofs.IdIndices.{once, missing_nowhere, stands_of, within}
use Rattle.vt_chains.specs.declared.levels.Levels.{Levels}
use Rattle.vt_chains.specs.Certificates.{IsCertificate, IsCertificateBut, AreLevels, AreLevelsBut}

shorter_chain : (ids : List ℕ) (included : ℕ → List ℕ) (levels : List ℕ) → IsCertificate ids included levels
    → (a index : ℕ) (rest : List ℕ) → IsIdAt ids index a → IsChain included (a ∷ rest) → length rest ≤ slice_index levels index
shorter_chain ids included levels is a index [] there chain = omega arith
shorter_chain ids included levels is a index (b ∷ rest) there chain =
    let lower = is.falls index a there b chain.0 in
    let less = lower.less in
    let rest_fits = shorter_chain ids included levels is b lower.index rest lower.there chain.1 in
    omega arith

pub certified_shallow : (ids : List ℕ) (included : ℕ → List ℕ) (levels : List ℕ) → IsSourced ids included → IsCertificate ids included levels
    → IsShallow terminal.inclusions included
certified_shallow ids included levels sourced is [] chain = omega arith
certified_shallow ids included levels sourced is (a ∷ []) chain = omega arith
certified_shallow ids included levels sourced is (a ∷ b ∷ rest) chain =
    let at = sourced a b chain.0 in
    let fits = shorter_chain ids included levels is a at.0 (b ∷ rest) at.1 chain in
    let bound = is.within at.0 in
    omega arith

pub levels_shallow : (m : ObjectMap) (levels : List ℕ) → IsCertificate (ids_of m) (inclusions_of m) levels → IsShallow terminal.inclusions (inclusions_of m)
levels_shallow m levels is = certified_shallow (ids_of m) (inclusions_of m) levels (sourced (finite.entries m)) is

-- a chain with one inclusion too many contradicts the limit
pub never_shallow : (included : ℕ → List ℕ) (most : ℕ) (chain : List ℕ) → IsTooDeep most included chain → IsShallow most included → ⊥
never_shallow included most chain deep shallow = omega (arith, shallow chain deep.0, deep.1)

pub depths_fall : (ids : List ℕ) (included : ℕ → List ℕ) (levels : List ℕ) → AreDepths ids included terminal.inclusions levels → IsCertificate ids included levels
depths_fall ids included levels are =
    record { each = are.each; within = are.within; falls = λ index id there other h. (are.depth index id there).above other h }

-- a certificate except for one inclusion that also falls is a certificate
pub one_more : (ids : List ℕ) (included : ℕ → List ℕ) (levels : List ℕ) (from to : ℕ) → IsCertificateBut ids included levels from to
    → ((index : ℕ) → IsIdAt ids index from → Contains (included from) to → IsBelow ids levels to (slice_index levels index)) → IsCertificate ids included levels
one_more ids included levels from to but falls = record { each = but.each; within = but.within; falls = all }
  where
    all : (index id : ℕ) → IsIdAt ids index id → (other : ℕ) → Contains (included id) other → IsBelow ids levels other (slice_index levels index)
    all index id there other h =
        elim (but.falls index id there other h) as (λ _. IsBelow ids levels other (slice_index levels index)) [
          | inl lower ↦ lower
          | inr is ↦
              subst (λ (k : ℕ). IsBelow ids levels k (slice_index levels index)) (sym is.1)
              (falls index (subst (λ (k : ℕ). IsIdAt ids index k) is.0 there)
              (subst (λ (k : ℕ). Contains (included k) to) is.0 (subst (λ (k : ℕ). Contains (included id) k) is.1 h)))
        ]

-- no object includes a missing ID
pub never_included : (m : ObjectMap) (from to : ℕ) → IsClosed (ids_of m) (inclusions_of m) → finite.get m to ≡ None → Contains (inclusions_of m from) to → ⊥
never_included m from to closed none h = let at = closed from to h in missing_nowhere m at.0 to at.1 none

-- within its length, a list's element does not depend on the default
same_or : (xs : List ℕ) (index d : ℕ) → index < length xs → slice_index_or xs index d ≡ slice_index xs index
same_or [] index d lt = absurd (omega (arith, lt))
same_or (x ∷ xs) zero d lt = refl
same_or (x ∷ xs) (suc index) d lt = same_or xs index d (omega (arith, lt))

pub index_within : (m : ObjectMap) (levels : List ℕ) (id index : ℕ) → length levels ≡ length (ids_of m) → IsPlace (finite.entries m) id index → index < length levels
index_within m levels id index long at =
    let lt = within (ids_of m) index id (stands_of (finite.entries m) index id at.object at.there) in
    omega (arith, lt, long)

pub level_is : (m : ObjectMap) (levels : List ℕ) (id index level d : ℕ) → length levels ≡ length (ids_of m) → IsPlace (finite.entries m) id index
    → level ≡ slice_index_or levels index d → level ≡ slice_index levels index
level_is m levels id index level d long at is = is ∙ same_or levels index d (index_within m levels id index long at)

pub falling_there : (m : ObjectMap) (levels : Levels) (from to above below : ℕ) → AreLevelsBut m levels from to → IsPlace (finite.entries m) from above
    → IsPlace (finite.entries m) to below → slice_index levels.levels.items below < slice_index levels.levels.items above → AreLevels m levels
falling_there m levels from to above below but one other less =
    record {
      certificate = one_more (ids_of m) (inclusions_of m) levels.levels.items from to but.certificate
          (λ index there h.
          let at : index ≡ above = once m index above from there (stands_of (finite.entries m) above from one.object one.there) in
          record {
            index = below;
            there = stands_of (finite.entries m) below to other.object other.there;
            less = subst (λ (p : ℕ). slice_index levels.levels.items below < slice_index levels.levels.items p) (sym at) less;
          });
      spare_length = but.spare_length;
    }

pub falling_nowhere : (m : ObjectMap) (levels : Levels) (from to : ℕ) → AreLevelsBut m levels from to → finite.get m to ≡ None → AreLevels m levels
falling_nowhere m levels from to but none =
    record {
      certificate = one_more (ids_of m) (inclusions_of m) levels.levels.items from to but.certificate
          (λ index there h. absurd (never_included m from to but.certificate.closed none h));
      spare_length = but.spare_length;
    }

pub falling_from_nowhere : (m : ObjectMap) (levels : Levels) (from to : ℕ) → AreLevelsBut m levels from to → finite.get m from ≡ None → AreLevels m levels
falling_from_nowhere m levels from to but none =
    record {
      certificate = one_more (ids_of m) (inclusions_of m) levels.levels.items from to but.certificate
          (λ index there h. absurd (missing_nowhere m index from there none));
      spare_length = but.spare_length;
    }
