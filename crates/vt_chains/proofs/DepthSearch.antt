-- The search for depths, one object at a time, and the too long chain that ends it.
use Rattle.std.proofs.Common.{◌≡◌, ◌≢◌, ℕ, zero, suc, ◌+◌, ◌<◌, ◌≤◌, max, List, [], ◌∷◌, ◌++◌, length, set, true, Some, ◌⊎◌, inl, inr, refl, sym, ap, subst, ◌∙◌, arith}
use Rattle.std.proofs.lemmas.Option.{same_Some}
use Rattle.std.proofs.lemmas.List.{get_or-set_same, get_or-set_other, length-set, length-append, get_or_past}
use Rattle.std.proofs.lemmas.Bool.{cases_lt, cases_eq}
use Rattle.std.specs.Prelude.{slice_get, slice_index, Contains}
use Rattle.vt_kinds.specs.declared.slot.Slot.{Slot}
use Rattle.vt_chains.specs.Inclusions.{includes, IsChain, IsShallow, IsTooDeep}
use Rattle.vt_chains.specs.Depths.{IsIdAt, IsAtDepth, IsBelow, AreDepths, unset, IsDepth, AreDepthsSoFar, KeepsDepths, BeginsChain, IncludesChain}
use Rattle.vt_chains.proofs.InclusionsInStore.{IsSourced}
use Rattle.vt_chains.proofs.Elements.{Contains-nil}
use Rattle.vt_chains.proofs.IdIndices.{same_id, within}
use Rattle.vt_chains.proofs.Slots.{included_in, in_first, in_more, slot_case}

-- the index of each ID is unique
abbrev pub AreOnce : List ℕ → Type 0
AreOnce ids = (a b id : ℕ) → IsIdAt ids a id → IsIdAt ids b id → a ≡ b

-- ---- depths prove that no chain is too long

shorter_chain : (ids : List ℕ) (included : ℕ → List ℕ) (most : ℕ) (depths : List ℕ) → AreDepths ids included most depths
    → (a index : ℕ) (rest : List ℕ) → IsIdAt ids index a → IsChain included (a ∷ rest) → length rest ≤ slice_index depths index
shorter_chain ids included most depths are a index [] there chain = omega arith
shorter_chain ids included most depths are a index (b ∷ rest) there chain =
    let lower = (are.depth index a there).above b chain.0 in
    let less = lower.less in
    let rest_fits = shorter_chain ids included most depths are b lower.index rest lower.there chain.1 in
    omega arith

pub show_shallow : (ids : List ℕ) (included : ℕ → List ℕ) (most : ℕ) (depths : List ℕ) → IsSourced ids included → AreDepths ids included most depths
    → IsShallow most included
show_shallow ids included most depths sourced are [] chain = omega arith
show_shallow ids included most depths sourced are (a ∷ []) chain = omega arith
show_shallow ids included most depths sourced are (a ∷ b ∷ rest) chain =
    let at = sourced a b chain.0 in
    let fits = shorter_chain ids included most depths are a at.0 (b ∷ rest) at.1 chain in
    let bound = are.within at.0 in
    omega arith

-- ---- found depths stay

kept : (old new : List ℕ) (index depth : ℕ) → KeepsDepths old new → slice_index old index ≡ depth → depth < unset → slice_index new index ≡ depth
kept old new index depth keeps is lt = keeps index (λ e. absurd (omega (arith, e, is, lt))) ∙ is

pub still_at : (ids old new : List ℕ) (id depth : ℕ) → KeepsDepths old new → depth < unset → IsAtDepth ids old id depth → IsAtDepth ids new id depth
still_at ids old new id depth keeps lt at = record { index = at.index; there = at.there; is = kept old new at.index depth keeps at.is lt }

pub still_below : (ids old new : List ℕ) (id most more : ℕ) → KeepsDepths old new → most ≤ unset → most ≤ more → IsBelow ids old id most → IsBelow ids new id more
still_below ids old new id most more keeps le greater lower =
    let less = lower.less in
    let same = kept old new lower.index (slice_index old lower.index) keeps refl (omega arith) in
    record { index = lower.index; there = lower.there; less = omega (arith, same) }

still_depth : (ids : List ℕ) (included : ℕ → List ℕ) (old new : List ℕ) (id depth : ℕ) → KeepsDepths old new → depth ≤ unset → IsDepth ids included old id depth
    → IsDepth ids included new id depth
still_depth ids included old new id depth keeps le is = record {
  above = λ other h. still_below ids old new other depth depth keeps le (omega arith) (is.above other h);
  reached = λ less e. let one = is.reached less e in (one.0, one.1, still_at ids old new one.0 less keeps (omega (arith, e)) one.2);
}

pub KeepsDepths-trans : (a b c : List ℕ) → KeepsDepths a b → KeepsDepths b c → KeepsDepths a c
KeepsDepths-trans a b c first second index found = second index (λ e. found (sym (first index found) ∙ e)) ∙ first index found

-- ---- the depth of an ID is unique

module _ (ids : List ℕ) (included : ℕ → List ℕ) (depths : List ℕ) (once : AreOnce ids) (id : ℕ) where
  no_deeper : (a b : ℕ) → IsDepth ids included depths id a → IsDepth ids included depths id b → a ≤ b
  no_deeper zero b one other = omega arith
  no_deeper (suc less) b one other =
      let low = one.reached less refl in
      let high = other.above low.0 low.1 in
      let lt = high.less in
      let at = low.2 in
      let is = at.is in
      let same = once at.index high.index low.0 at.there high.there in
      let alike = ap (slice_index depths) same in
      omega (arith, alike)

  same_depth : (a b : ℕ) → IsDepth ids included depths id a → IsDepth ids included depths id b → a ≡ b
  same_depth a b one other =
      let le = no_deeper a b one other in
      let ge = no_deeper b a other one in
      omega arith

-- ---- one more depth

module _ (ids : List ℕ) (included : ℕ → List ℕ) (depths : List ℕ) (once : AreOnce ids) (found : AreDepthsSoFar ids included depths)
    (index id depth : ℕ) (there : IsIdAt ids index id) (low : depth < unset) (is : IsDepth ids included depths id depth) where
  abbrev after : List ℕ
  after = set depths index depth

  inside : index < length depths
  inside =
      let lt = within ids index id there in
      let each = found.each in
      omega arith

  index_here : slice_index after index ≡ depth
  index_here = get_or-set_same depths index depth 0 inside

  index_there : (other : ℕ) → other ≢ index → slice_index after other ≡ slice_index depths other
  index_there other apart = get_or-set_other depths index other depth 0 apart

  pub put_keeps : KeepsDepths depths after
  put_keeps other settled = elim (cases_eq other index) [
    | inl same ↦
        let at = subst (λ (k : ℕ). slice_index depths k ≢ unset) same settled in
        let one = same_depth ids included depths once id (slice_index depths index) depth (found.found index id there at) is in
        ap (slice_index after) same ∙ index_here ∙ sym one ∙ sym (ap (slice_index depths) same)
    | inr apart ↦ index_there other apart
  ]

  put_within : (other : ℕ) → slice_index after other ≤ unset
  put_within other = elim (cases_eq other index) [
    | inl same ↦ let here = ap (slice_index after) same ∙ index_here in omega (arith, here)
    | inr apart ↦ let stays = index_there other apart in let le = found.within other in omega (arith, stays)
  ]

  put_found : (at other : ℕ) → IsIdAt ids at other → slice_index after at ≢ unset → IsDepth ids included after other (slice_index after at)
  put_found at other stands settled = elim (cases_eq at index) [
    | inl same ↦
        let one : id ≡ other = same_id ids index id other there (subst (λ (k : ℕ). IsIdAt ids k other) same stands) in
        let here = ap (slice_index after) same ∙ index_here in
        subst (IsDepth ids included after other) (sym here)
        (subst (λ (k : ℕ). IsDepth ids included after k depth) one (still_depth ids included depths after id depth put_keeps (omega arith) is))
    | inr apart ↦
        let stays = index_there at apart in
        subst (IsDepth ids included after other) (sym stays)
        (still_depth ids included depths after other (slice_index depths at) put_keeps (found.within at)
        (found.found at other stands (λ e. settled (stays ∙ e))))
  ]

  pub put_depth : AreDepthsSoFar ids included after
  put_depth = record { each = length-set depths index depth ∙ found.each; within = put_within; found = put_found }

-- ---- the loop over the slots of an object

pub record IsSearch (ids : List ℕ) (included : ℕ → List ℕ) (first now : List ℕ) (id deepest most : ℕ) (left : List Slot) : Type 0 where
  pub among : (other : ℕ) → Contains (included_in left) other → Contains (included id) other
  pub found : AreDepthsSoFar ids included now
  pub keeps : KeepsDepths first now
  pub done : (other : ℕ) → Contains (included id) other → IsBelow ids now other deepest ⊎ Contains (included_in left) other
  pub reached : (less : ℕ) → deepest ≡ suc less → (other : ℕ) × Contains (included id) other × IsAtDepth ids now other less
  pub within : deepest ≤ most

pub search_begins : (ids : List ℕ) (included : ℕ → List ℕ) (depths : List ℕ) (id most : ℕ) (slots : List Slot) → AreDepthsSoFar ids included depths → included id ≡ included_in slots
    → IsSearch ids included depths depths id 0 most slots
search_begins ids included depths id most slots found are = record {
  among = λ other h. subst (λ (l : List ℕ). Contains l other) (sym are) h;
  found = found;
  keeps = λ index settled. refl;
  done = λ other h. inr (subst (λ (l : List ℕ). Contains l other) are h);
  reached = λ less e. absurd (omega (arith, e));
  within = omega arith;
}

pub search_passes : (ids : List ℕ) (included : ℕ → List ℕ) (first now : List ℕ) (id deepest most : ℕ) (slot : Slot) (left : List Slot) → (includes slot ≡ true → ⊥)
    → IsSearch ids included first now id deepest most (slot ∷ left) → IsSearch ids included first now id deepest most left
search_passes ids included first now id deepest most slot left none search = record {
  among = λ other h. search.among other (in_more slot left other h);
  found = search.found;
  keeps = search.keeps;
  done = λ other h. elim (search.done other h) as (λ _. IsBelow ids now other deepest ⊎ Contains (included_in left) other) [
    | inl lower ↦ inl lower
    | inr there ↦ slot_case (IsBelow ids now other deepest ⊎ Contains (included_in left) other) slot left other there (λ is same. absurd (none is)) (λ later. inr later)
  ];
  reached = search.reached;
  within = search.within;
}

max_case : (P : ℕ → Type 0) (a b : ℕ) → (a ≤ b → P b) → (b ≤ a → P a) → P (max a b)
max_case P a b lower greater = elim (cases_lt a b) [
  | inl lt ↦ subst P (omega arith) (lower (omega arith))
  | inr ge ↦ subst P (omega arith) (greater ge)
]

pub search_goes_on : (ids : List ℕ) (included : ℕ → List ℕ) (first now next : List ℕ) (id deepest most : ℕ) (slot : Slot) (left : List Slot) (depth : ℕ) → most ≤ 32
    → includes slot ≡ true → AreDepthsSoFar ids included next → KeepsDepths now next → IsAtDepth ids next slot.id depth → depth < most
    → IsSearch ids included first now id deepest most (slot ∷ left) → IsSearch ids included first next id (max deepest (depth + 1)) most left
search_goes_on ids included first now next id deepest most slot left depth high is found keeps at lt search =
    let le = search.within in
    let lowest = λ (n : ℕ). IsBelow ids next slot.id n in
    let is_at = at.is in
    record {
      among = λ other h. search.among other (in_more slot left other h);
      found = found;
      keeps = KeepsDepths-trans first now next search.keeps keeps;
      done = λ other h. elim (search.done other h) as (λ _. IsBelow ids next other (max deepest (depth + 1)) ⊎ Contains (included_in left) other) [
        | inl lower ↦ inl (still_below ids now next other deepest (max deepest (depth + 1)) keeps (omega arith) (omega arith) lower)
        | inr there ↦ slot_case (IsBelow ids next other (max deepest (depth + 1)) ⊎ Contains (included_in left) other) slot left other there
            (λ one same. inl (subst (λ (k : ℕ). IsBelow ids next k (max deepest (depth + 1))) same (record { index = at.index; there = at.there; less = omega (arith, is_at) })))
            (λ later. inr later)
      ];
      reached = max_case (λ (n : ℕ). (less : ℕ) → n ≡ suc less → (other : ℕ) × Contains (included id) other × IsAtDepth ids next other less) deepest (depth + 1)
          (λ le less e. let same : depth ≡ less = omega (arith, e) in (slot.id, search.among slot.id (in_first slot left is), subst (IsAtDepth ids next slot.id) same at))
          (λ ge less e. let one = search.reached less e in (one.0, one.1, still_at ids now next one.0 less keeps (omega (arith, e)) one.2));
      within = omega arith;
    }

none_left : {P : Type 0} (other : ℕ) (left : List Slot) → left ≡ [] → Contains (included_in left) other → P
none_left other left is h = absurd (Contains-nil other (subst (λ (l : List Slot). Contains (included_in l) other) is h))

pub search_ends : (ids : List ℕ) (included : ℕ → List ℕ) (first now : List ℕ) (id deepest most : ℕ) (left : List Slot) → left ≡ []
    → IsSearch ids included first now id deepest most left → IsDepth ids included now id deepest
search_ends ids included first now id deepest most left is search = record {
  above = λ other h. elim (search.done other h) as (λ _. IsBelow ids now other deepest) [ inl lower ↦ lower | inr there ↦ none_left other left is there ];
  reached = search.reached;
}

pub search_fails : (ids : List ℕ) (included : ℕ → List ℕ) (first now : List ℕ) (id deepest most : ℕ) (slot : Slot) (left : List Slot) (chain : List ℕ) → includes slot ≡ true
    → BeginsChain included slot.id most chain → IsSearch ids included first now id deepest most (slot ∷ left) → IncludesChain included id most chain
search_fails ids included first now id deepest most slot left chain is begins search = (slot.id, search.among slot.id (in_first slot left is), begins)

-- ---- chains by their first ID

pub one_id : (included : ℕ → List ℕ) (id : ℕ) → BeginsChain included id 0 (id ∷ [])
one_id included id = record { is = tt; first = refl; long = refl }

pub one_in_front : (included : ℕ → List ℕ) (id count : ℕ) (chain : List ℕ) → IncludesChain included id count chain → BeginsChain included id (count + 1) (id ∷ chain)
one_in_front included id count [] begins = let never = begins.2.first in absurd cc
one_in_front included id count (a ∷ chain) begins =
    let same : a ≡ begins.0 = same_Some a begins.0 begins.2.first in
    let long = begins.2.long in record {
      is = (subst (λ (k : ℕ). Contains (included id) k) (sym same) begins.1, begins.2.is);
      first = refl;
      long = omega arith;
    }

-- appends an ID to a chain
pub chain_push : (included : ℕ → List ℕ) (xs : List ℕ) (a b : ℕ) → IsChain included (xs ++ a ∷ []) → Contains (included a) b → IsChain included ((xs ++ a ∷ []) ++ b ∷ [])
chain_push included [] a b chain h = (h, tt)
chain_push included (x ∷ []) a b chain h = (chain.0, (h, tt))
chain_push included (x ∷ y ∷ xs) a b chain h = (chain.0, chain_push included (y ∷ xs) a b chain.1 h)

-- ---- the next ID of a chain

-- an ID is at no index with less than this depth
abbrev pub IsDeep : List ℕ → List ℕ → ℕ → ℕ → Type 0
IsDeep ids depths id depth = (index : ℕ) → IsIdAt ids index id → depth ≤ slice_index depths index

pub deep_next : (ids : List ℕ) (included : ℕ → List ℕ) (depths : List ℕ) → AreOnce ids → AreDepthsSoFar ids included depths → (index id depth : ℕ) → IsIdAt ids index id
    → slice_index depths index ≢ unset → depth < slice_index depths index → (other : ℕ) × Contains (included id) other × IsDeep ids depths other depth
deep_next ids included depths once found index id depth there settled deep = from (slice_index depths index) refl (found.found index id there settled)
  where
    from : (d : ℕ) → slice_index depths index ≡ d → IsDepth ids included depths id d → (other : ℕ) × Contains (included id) other × IsDeep ids depths other depth
    from zero e is = absurd (omega (arith, e))
    from (suc less) e is =
        let one = is.reached less refl in
        (one.0, one.1, λ at stands. let same = ap (slice_index depths) (once at one.2.index one.0 stands one.2.there) in let here = one.2.is in omega (arith, e, same))

-- an object included by one with a found depth has a found depth too
pub next_is_found : (ids : List ℕ) (included : ℕ → List ℕ) (depths : List ℕ) → AreOnce ids → AreDepthsSoFar ids included depths → (index id other at : ℕ) → IsIdAt ids index id
    → slice_index depths index ≢ unset → Contains (included id) other → IsIdAt ids at other → slice_index depths at ≢ unset
next_is_found ids included depths once found index id other at there settled h stands e =
    let lower = (found.found index id there settled).above other h in
    let less = lower.less in
    let le = found.within index in
    let same = ap (slice_index depths) (once at lower.index other stands lower.there) in
    absurd (omega (arith, e, same))

-- ---- a chain that grows

pub record IsGrowing (ids : List ℕ) (included : ℕ → List ℕ) (depths : List ℕ) (first index step count : ℕ) (chain : List ℕ) : Type 0 where
  pub is : IsChain included chain
  pub head : (id : ℕ) → IsIdAt ids first id → slice_get chain 0 ≡ Some id
  pub last : (front : List ℕ) × (id : ℕ) × (chain ≡ front ++ id ∷ []) × IsIdAt ids index id
  pub long : length chain ≡ step + 1
  pub inside : index < length depths
  pub settled : slice_index depths index ≢ unset
  pub deep : count ≤ slice_index depths index + step

pub growing_begins : (ids : List ℕ) (included : ℕ → List ℕ) (depths : List ℕ) (index count id : ℕ) → index < length depths → slice_index depths index ≢ unset
    → count ≤ slice_index depths index → IsIdAt ids index id → IsGrowing ids included depths index index 0 count (id ∷ [])
growing_begins ids included depths index count id inside settled deep stands = record {
  is = tt;
  head = λ other at. ap Some (same_id ids index id other stands at);
  last = ([], id, refl, stands);
  long = refl;
  inside = inside;
  settled = settled;
  deep = omega arith;
}

head_stays : (xs : List ℕ) (y id : ℕ) → slice_get xs 0 ≡ Some id → slice_get (xs ++ y ∷ []) 0 ≡ Some id
head_stays [] y id is = absurd cc
head_stays (x ∷ xs) y id is = is

pub growing_more : (ids : List ℕ) (included : ℕ → List ℕ) (depths : List ℕ) (first index next step count id : ℕ) (chain : List ℕ) → step < count
    → ((id : ℕ) → IsIdAt ids index id → (other : ℕ) × Contains (included id) other × IsIdAt ids next other) → count ≤ (slice_index depths next + step) + 1
    → next < length depths → slice_index depths next ≢ unset → IsIdAt ids next id
    → IsGrowing ids included depths first index step count chain → IsGrowing ids included depths first next (step + 1) count (chain ++ id ∷ [])
growing_more ids included depths first index next step count id chain lt goes deep inside settled stands grows =
    let last = grows.last in
    let one = goes last.1 last.3 in
    let same = same_id ids next one.0 id one.2 stands in
    let long = grows.long in
    let longer = length-append chain (id ∷ []) in
    record {
      is = subst (λ (xs : List ℕ). IsChain included (xs ++ id ∷ [])) (sym last.2)
          (chain_push included last.0 last.1 id (subst (IsChain included) last.2 grows.is) (subst (λ (k : ℕ). Contains (included last.1) k) same one.1));
      head = λ other at. head_stays chain id other (grows.head other at);
      last = (chain, id, refl, stands);
      long = omega (arith, long, longer);
      inside = inside;
      settled = settled;
      deep = omega arith;
    }

pub growing_ends : (ids : List ℕ) (included : ℕ → List ℕ) (depths : List ℕ) (first index step count : ℕ) (chain : List ℕ) → step ≡ count
    → IsGrowing ids included depths first index step count chain → (id : ℕ) → IsIdAt ids first id → BeginsChain included id count chain
growing_ends ids included depths first index step count chain end grows id stands = record {
  is = grows.is;
  first = grows.head id stands;
  long = grows.long ∙ ap (λ (n : ℕ). n + 1) end;
}

-- ---- the start and the end of the search

pub none_found : (ids : List ℕ) (included : ℕ → List ℕ) (depths : List ℕ) → length depths ≡ length ids → ((index : ℕ) → index < length depths → slice_index depths index ≡ unset)
    → AreDepthsSoFar ids included depths
none_found ids included depths each are = record {
  each = each;
  within = λ index. elim (cases_lt index (length depths)) [
    | inl lt ↦ let is = are index lt in omega (arith, is)
    | inr ge ↦ let past = get_or_past depths index 0 ge in omega (arith, past)
  ];
  found = λ index id stands settled. let lt = within ids index id stands in absurd (settled (are index (omega (arith, lt, each))));
}

pub all_found : (ids : List ℕ) (included : ℕ → List ℕ) (depths : List ℕ) (most : ℕ) → most < unset → AreDepthsSoFar ids included depths
    → ((index : ℕ) → index < length depths → slice_index depths index ≤ most) → AreDepths ids included most depths
all_found ids included depths most lt found settled = record {
  each = found.each;
  within = λ index. elim (cases_lt index (length depths)) [
    | inl inside ↦ settled index inside
    | inr ge ↦ let past = get_or_past depths index 0 ge in omega (arith, past)
  ];
  depth = λ index id stands.
      let inside = within ids index id stands in
      let each = found.each in
      let le = settled index (omega (arith, inside, each)) in
      found.found index id stands (λ e. absurd (omega (arith, e, le)));
}

pub too_deep : (ids : List ℕ) (included : ℕ → List ℕ) (most id : ℕ) (chain : List ℕ) → BeginsChain included id (most + 1) chain → IsTooDeep most included chain
too_deep ids included most id chain begins = let long = begins.long in (begins.is, omega (arith, long))
