-- The effect of a claim on the list of sets.
use Rattle.std.proofs.Common.{◌≡◌, ◌≢◌, ℕ, Bool, true, false, cond, not, ◌||◌, ◌&&◌, eqb, List, [], ◌∷◌, ◌++◌, map, Option, Some, None, refl, sym, ap, subst, ◌∙◌, eq-eqb, ne_eqb, nat_eq}
use Rattle.std.proofs.lemmas.Option.{same_Some}
use Rattle.std.specs.List.{filter, AllByRecursion}
use Rattle.std.specs.Option.{option_eq}
use Rattle.vt_can.specs.declared.frames.frame.Frame.{Frame}
use Rattle.vt_names.specs.Claims.{Claimed, IsRisingByName, OtherHoldersStay, address_of}
use Rattle.vt_names.specs.Registry.{AreApart, Set, set_at, with_set, without}
use Rattle.vt_laws.specs.Happenings.{NameIsHeld, SetIsHeld}
use Rattle.vt_server.specs.state.AddressViews.{Act, Hears, Rebinds, unchanged, without_set, with_holder_name, after_change, after_claim_heard}
use Rattle.vt_server.specs.state.AddressStates.{AddressState, heard_at}
use Rattle.vt_laws.specs.SetLists.{stays, named_at}
use Rattle.vt_server.specs.Steps.{before, rebind_acts, rebind_former_acts, former_holder, former_address, changes_by, heard_at_source, acts}
use Rattle.vt_server.specs.Terminals.{State, holder, part, after_act, after_acts, with_set_at}
use Rattle.vt_server.specs.message.Verdicts.{Verdict}
use Rattle.vt_node.specs.declared.bus.FrameMeaning.TheVariants.{Claim}
use Rattle.vt_server.proofs.lemmas.acts.HolderChanges.{option-true, claims-acts}
use Rattle.vt_server.proofs.lemmas.steps.StepInvariants.{none-filter, apart-filter}
use Rattle.vt_laws.proofs.lemmas.views.ActChangesOneView.{named-address}
use Rattle.vt_server.proofs.lemmas.acts.ComposedActs.{sets-same, act-is, acts-append}
use Rattle.vt_node.proofs.Sets.{none-same}
use Rattle.vt_server.proofs.lemmas.frame.ClaimEffect.{rebind_acts-same}
use Rattle.vt_names.proofs.SetsByAddress.{set_at-first, set_at-later, with_set-first, with_set-later, without-first, without-later, set_at-address}
use Rattle.vt_names.proofs.AddressesAfterClaim.{by_eq, none-some}

-- ---- filters and maps on lists of sets

abbrev pub only_at : ℕ → (Set → Bool) → Set → Bool
only_at a test set = cond (eqb set.address a) (test set) true

filter-none : (a : ℕ) (test : Set → Bool) (sets : List Set) → set_at a sets ≡ None → filter (only_at a test) sets ≡ sets
filter-none a test [] none = refl
filter-none a test (t ∷ sets) none =
    let rest = filter-none a test sets in
    by_eq t.address a
    (λ is. none-some (sym none ∙ set_at-first a t sets is))
    (λ ne. ap (λ b. cond (cond b (test t) true) (t ∷ filter (only_at a test) sets) (filter (only_at a test) sets)) (ne_eqb t.address a ne)
    ∙ ap (λ l. t ∷ l) (rest (sym (set_at-later a t sets ne) ∙ none)))

filter-some : (a : ℕ) (test : Set → Bool) (sets : List Set) (x : Set) → set_at a sets ≡ Some x → AreApart sets
    → filter (only_at a test) sets ≡ cond (test x) sets (without a sets)
filter-some a test [] x there apart = none-some there
filter-some a test (t ∷ sets) x there apart =
    let rest = filter-some a test sets x in
    by_eq t.address a
    (λ is.
    let none : set_at a sets ≡ None = subst (λ b. set_at b sets ≡ None) is apart.0 in
    let same : t ≡ x = same_Some t x (sym (set_at-first a t sets is) ∙ there) in
    ap (λ b. cond (cond b (test t) true) (t ∷ filter (only_at a test) sets) (filter (only_at a test) sets)) (eq-eqb t.address a is)
    ∙ ap (λ l. cond (test t) (t ∷ l) l) (filter-none a test sets none)
    ∙ ap (λ l. cond (test t) (t ∷ sets) l) (sym (without-first a t sets is ∙ none-same a sets none))
    ∙ ap (λ (y : Set). cond (test y) (t ∷ sets) (without a (t ∷ sets))) same)
    (λ ne.
    ap (λ b. cond (cond b (test t) true) (t ∷ filter (only_at a test) sets) (filter (only_at a test) sets)) (ne_eqb t.address a ne)
    ∙ ap (λ l. t ∷ l) (rest (sym (set_at-later a t sets ne) ∙ there) apart.1)
    ∙ later (test x)
    ∙ ap (λ l. cond (test x) (t ∷ sets) l) (sym (without-later a t sets ne)))
  where
    later : (b : Bool) → t ∷ cond b sets (without a sets) ≡ cond b (t ∷ sets) (t ∷ without a sets)
    later true = refl
    later false = refl

-- A filter at one address leaves the set of any other address unchanged.
filter-other : (q a : ℕ) (test : Set → Bool) (sets : List Set) → q ≢ a → set_at q (filter (only_at a test) sets) ≡ set_at q sets
filter-other q a test [] ne = refl
filter-other q a test (t ∷ sets) ne =
    let rest = filter-other q a test sets ne in
    by_eq t.address q
    (λ is.
    ap (λ b. set_at q (cond (cond b (test t) true) (t ∷ filter (only_at a test) sets) (filter (only_at a test) sets)))
    (ne_eqb t.address a (λ h. ne (sym is ∙ h)))
    ∙ set_at-first q t (filter (only_at a test) sets) is ∙ sym (set_at-first q t sets is))
    (λ other. later other rest (cond (eqb t.address a) (test t) true) ∙ sym (set_at-later q t sets other))
  where
    later : t.address ≢ q → set_at q (filter (only_at a test) sets) ≡ set_at q sets → (b : Bool)
        → set_at q (cond b (t ∷ filter (only_at a test) sets) (filter (only_at a test) sets)) ≡ set_at q sets
    later other rest true = set_at-later q t (filter (only_at a test) sets) other ∙ rest
    later other rest false = rest

pub filter-all : (sets : List Set) → filter (λ _. true) sets ≡ sets
filter-all [] = refl
filter-all (t ∷ sets) = ap (λ l. t ∷ l) (filter-all sets)

filter-twice : (f g h : Set → Bool) (sets : List Set) → AllByRecursion (λ x. (f x && g x) ≡ h x) sets → filter g (filter f sets) ≡ filter h sets
filter-twice f g h [] all = refl
filter-twice f g h (t ∷ sets) all =
    cases (filter-twice f g h sets all.1) (f t) (g t) refl ∙ ap (λ b. cond b (t ∷ filter h sets) (filter h sets)) all.0
  where
    cases : filter g (filter f sets) ≡ filter h sets → (x y : Bool) → g t ≡ y
        → filter g (cond x (t ∷ filter f sets) (filter f sets)) ≡ cond (x && y) (t ∷ filter h sets) (filter h sets)
    cases rest true y e = ap (λ b. cond b (t ∷ filter g (filter f sets)) (filter g (filter f sets))) e ∙ ap (λ l. cond y (t ∷ l) l) rest
    cases rest false y e = rest

-- ---- filters, and maps that keep addresses

none-map : (q : ℕ) (f : Set → Set) (sets : List Set) → ((x : Set) → (f x).address ≡ x.address) → set_at q sets ≡ None → set_at q (map f sets) ≡ None
none-map q f [] same none = refl
none-map q f (t ∷ sets) same none =
    let rest = none-map q f sets same in
    by_eq t.address q
    (λ is. none-some (sym none ∙ set_at-first q t sets is))
    (λ ne. set_at-later q (f t) (map f sets) (λ h. ne (sym (same t) ∙ h)) ∙ rest (sym (set_at-later q t sets ne) ∙ none))

abbrev pub change_at : ℕ → (Set → Set) → Set → Set
change_at a f set = cond (eqb set.address a) (f set) set

map-none : (a : ℕ) (f : Set → Set) (sets : List Set) → set_at a sets ≡ None → map (change_at a f) sets ≡ sets
map-none a f [] none = refl
map-none a f (t ∷ sets) none =
    let rest = map-none a f sets in
    by_eq t.address a
    (λ is. none-some (sym none ∙ set_at-first a t sets is))
    (λ ne. ap (λ b. cond b (f t) t ∷ map (change_at a f) sets) (ne_eqb t.address a ne)
    ∙ ap (λ l. t ∷ l) (rest (sym (set_at-later a t sets ne) ∙ none)))

map-some : (a : ℕ) (f : Set → Set) (sets : List Set) (x : Set) → ((y : Set) → (f y).address ≡ y.address) → set_at a sets ≡ Some x → AreApart sets
    → map (change_at a f) sets ≡ with_set (f x) sets
map-some a f [] x same there apart = none-some there
map-some a f (t ∷ sets) x same there apart =
    let rest = map-some a f sets x same in
    let own : (f x).address ≡ a = same x ∙ set_at-address a x (t ∷ sets) there in
    by_eq t.address a
    (λ is.
    ap (λ b. cond b (f t) t ∷ map (change_at a f) sets) (eq-eqb t.address a is)
    ∙ ap (λ l. f t ∷ l) (map-none a f sets (subst (λ b. set_at b sets ≡ None) is apart.0))
    ∙ ap (λ (y : Set). f y ∷ sets) (same_Some t x (sym (set_at-first a t sets is) ∙ there))
    ∙ sym (with_set-first (f x) t sets (is ∙ sym own)))
    (λ ne.
    ap (λ b. cond b (f t) t ∷ map (change_at a f) sets) (ne_eqb t.address a ne)
    ∙ ap (λ l. t ∷ l) (rest (sym (set_at-later a t sets ne) ∙ there) apart.1)
    ∙ sym (with_set-later (f x) t sets (λ h. ne (h ∙ own))))

-- ---- the effect of an act at one address on the list

stays-name : (name h : Option ℕ) → NameIsHeld name h → (option_eq nat_eq name None || option_eq nat_eq name h) ≡ true
stays-name None h held = refl
stays-name (Some n) h held = ap (option_eq nat_eq (Some n)) held ∙ eq-eqb n n refl

pub named_at-address : (s : State) (a : ℕ) (x : Set) → (named_at s a x).address ≡ x.address
named_at-address s a x = cases (eqb x.address a)
  where
    cases : (b : Bool) → (cond b (with_holder_name x x.name (holder s a)) x).address ≡ x.address
    cases true = named-address x x.name (holder s a)
    cases false = refl

module _ (u : State) (a : ℕ) (apart : AreApart u.sets) where
  rebound-is : (o : Option Set) → set_at a u.sets ≡ o → with_set_at a (after_change (part a u) o).set u.sets ≡ filter (only_at a (stays u)) u.sets
  rebound-is None e = sets-same a u.sets (set_at a u.sets) refl ∙ sym (filter-none a (stays u) u.sets e)
  rebound-is (Some x) e =
      closed-is (option_eq nat_eq x.name None || option_eq nat_eq x.name (holder u a))
      ∙ ap (λ q. cond (option_eq nat_eq x.name None || option_eq nat_eq x.name (holder u q)) u.sets (without a u.sets)) (sym (set_at-address a x u.sets e))
      ∙ sym (filter-some a (stays u) u.sets x e apart)
    where
      closed-is : (b : Bool) → with_set_at a (cond b (unchanged (part a u)) (without_set (part a u))).set u.sets ≡ cond b u.sets (without a u.sets)
      closed-is true = sets-same a u.sets (set_at a u.sets) refl
      closed-is false = refl

  stays-all : (was : Option ℕ) (o : Option Set) → set_at a u.sets ≡ o → SetIsHeld o was → was ≡ holder u a → u.sets ≡ filter (only_at a (stays u)) u.sets
  stays-all was None e held same = sym (filter-none a (stays u) u.sets e)
  stays-all was (Some x) e held same =
      sym (filter-some a (stays u) u.sets x e apart
      ∙ ap (λ b. cond b u.sets (without a u.sets))
      (stays-name x.name (holder u x.address) (subst (NameIsHeld x.name) (same ∙ ap (holder u) (sym (set_at-address a x u.sets e))) held)))

  changed-list : (was : Option ℕ) → SetIsHeld (set_at a u.sets) was → (after_acts u (rebind_acts was u a)).sets ≡ filter (only_at a (stays u)) u.sets
  changed-list was held = cases (option_eq nat_eq was (holder u a)) refl
    where
      cases : (b : Bool) → option_eq nat_eq was (holder u a) ≡ b → (after_acts u (cond b [] ((a, Rebinds) ∷ []))).sets ≡ filter (only_at a (stays u)) u.sets
      cases true e = stays-all was (set_at a u.sets) refl held (option-true was (holder u a) e)
      cases false e = ap (λ (s : State). s.sets) (act-is u a Rebinds) ∙ rebound-is (set_at a u.sets) refl

  bound-is : (place : AddressState) (o : Option Set) → set_at a u.sets ≡ o → with_set_at a (after_claim_heard (record (part a u) { place = place }) o).set u.sets ≡ map (named_at u a) u.sets
  bound-is place None e = sets-same a u.sets (set_at a u.sets) refl ∙ sym (map-none a (λ x. with_holder_name x x.name (holder u a)) u.sets e)
  bound-is place (Some x) e = sym (map-some a (λ x. with_holder_name x x.name (holder u a)) u.sets x (λ y. named-address y y.name (holder u a)) e apart)

  claim-list : (name : ℕ) (frame : Frame) (verdict : Verdict) → (after_act u a (Hears (Claim name) frame verdict)).sets ≡ map (named_at u a) u.sets
  claim-list name frame verdict =
      ap (λ (s : State). s.sets) (act-is u a (Hears (Claim name) frame verdict)) ∙ bound-is (heard_at u.now (u.places a)) (set_at a u.sets) refl

-- ---- a claim

and-true : (b : Bool) → (b && true) ≡ b
and-true true = refl
and-true false = refl

module _ (law : OtherHoldersStay) (s : State) (rising : IsRisingByName s.claims.addresses) (source name : ℕ) (apart : AreApart s.sets)
    (elsewhere-set : set_at s.claims.own s.sets ≡ None) (held : (a : ℕ) → SetIsHeld (set_at a s.sets) (holder s a)) where
  abbrev pub t : State
  t = before s source (Claim name)

  still : (x : Set) → x.address ≢ source → address_of s.claims.addresses name ≢ Some x.address
      → NameIsHeld x.name (holder s x.address) → stays t x ≡ true
  still x ne not has =
      stays-name x.name (holder t x.address)
      (subst (NameIsHeld x.name) (sym (law.others s.claims.addresses source name x.address rising ne not)) has)

  abbrev left_test : Option ℕ → Set → Bool
  left_test None x = true
  left_test (Some left) x = only_at left (stays t) x

  module _ (left : Option ℕ) (elsewhere : (l : ℕ) → left ≡ Some l → l ≢ source)
      (others : (q : ℕ) → q ≢ source → left ≢ Some q → address_of s.claims.addresses name ≢ Some q) where
    abbrev u : State
    u = after_acts t (rebind_former_acts (former_holder s left) t left)

    u-claims : u.claims ≡ t.claims
    u-claims = claims-acts t (rebind_former_acts (former_holder s left) t left)

    left-list : u.sets ≡ filter (left_test left) s.sets
    left-list = cases left
      where
        cases : (o : Option ℕ) → (after_acts t (rebind_former_acts (former_holder s o) t o)).sets ≡ filter (left_test o) s.sets
        cases None = sym (filter-all s.sets)
        cases (Some l) = changed-list t l apart (holder s l) (held l)

    source-stays : set_at source (filter (left_test left) s.sets) ≡ set_at source s.sets
    source-stays = cases left elsewhere
      where
        cases : (o : Option ℕ) → ((l : ℕ) → o ≡ Some l → l ≢ source) → set_at source (filter (left_test o) s.sets) ≡ set_at source s.sets
        cases None other = ap (set_at source) (filter-all s.sets)
        cases (Some l) other = filter-other source l (stays t) s.sets (λ h. other l refl (sym h))

    u-apart : AreApart u.sets
    u-apart = subst AreApart (sym left-list) (apart-filter (left_test left) s.sets apart)

    abbrev v : State
    v = after_acts u (rebind_acts (holder s source) t source)

    v-claims : v.claims ≡ t.claims
    v-claims = claims-acts u (rebind_acts (holder s source) t source) ∙ u-claims

    v-list : v.sets ≡ filter (only_at source (stays t)) (filter (left_test left) s.sets)
    v-list =
        ap (λ (hs : List (ℕ × Act)). (after_acts u hs).sets) (rebind_acts-same (holder s source) t u source (sym u-claims))
        ∙ changed-list u source u-apart (holder s source)
        (subst (λ o. SetIsHeld o (holder s source)) (sym (ap (set_at source) left-list ∙ source-stays)) (held source))
        ∙ ap (λ (c : Claimed). filter (only_at source (stays (record t { claims = c }))) u.sets) u-claims
        ∙ ap (filter (only_at source (stays t))) left-list

    one : (x : Set) → NameIsHeld x.name (holder s x.address) → (left_test left x && only_at source (stays t) x) ≡ stays t x
    one x has =
        by_eq x.address source
        (λ is.
        ap (λ b. b && only_at source (stays t) x) (elsewhere-test left elsewhere is)
        ∙ ap (λ b. cond b (stays t x) true) (eq-eqb x.address source is))
        (λ ne.
        ap (λ b. left_test left x && cond b (stays t x) true) (ne_eqb x.address source ne)
        ∙ and-true (left_test left x) ∙ left-only left others ne)
      where
        elsewhere-test : (o : Option ℕ) → ((l : ℕ) → o ≡ Some l → l ≢ source) → x.address ≡ source → left_test o x ≡ true
        elsewhere-test None other is = refl
        elsewhere-test (Some l) other is = ap (λ b. cond b (stays t x) true) (ne_eqb x.address l (λ h. other l refl (sym h ∙ is)))

        left-only : (o : Option ℕ) → ((q : ℕ) → q ≢ source → o ≢ Some q → address_of s.claims.addresses name ≢ Some q)
            → x.address ≢ source → left_test o x ≡ stays t x
        left-only None not ne = sym (still x ne (not x.address ne (λ e. none-some e)) has)
        left-only (Some l) not ne =
            by_eq x.address l
            (λ is. ap (λ b. cond b (stays t x) true) (eq-eqb x.address l is))
            (λ other.
            ap (λ b. cond b (stays t x) true) (ne_eqb x.address l other)
            ∙ sym (still x ne (not x.address ne (λ e. other (sym (same_Some l x.address e)))) has))

    all : (sets : List Set) → AreApart sets → ((a : ℕ) → SetIsHeld (set_at a sets) (holder s a))
        → AllByRecursion (λ x. (left_test left x && only_at source (stays t) x) ≡ stays t x) sets
    all [] parted has = tt
    all (x ∷ sets) parted has = (
      one x (subst (λ o. SetIsHeld o (holder s x.address)) (set_at-first x.address x sets refl) (has x.address)),
      all sets parted.1
          (λ a. by_eq x.address a
          (λ is. subst (λ o. SetIsHeld o (holder s a)) (sym (subst (λ b. set_at b sets ≡ None) is parted.0)) tt)
          (λ ne. subst (λ o. SetIsHeld o (holder s a)) (set_at-later a x sets ne) (has a))),
    )

    whole-list : v.sets ≡ filter (stays t) s.sets
    whole-list = v-list ∙ filter-twice (left_test left) (only_at source (stays t)) (stays t) s.sets (all s.sets apart held)

    -- The frame acts on the list last, unless it is from the terminal's own address, which has no set.
    last-list : (frame : Frame) (verdict : Verdict) → (after_acts v (heard_at_source s.claims.own source (Claim name) frame verdict)).sets
        ≡ map (named_at t source) (filter (stays t) s.sets)
    last-list frame verdict =
        by_eq source s.claims.own
        (λ is.
        ap (λ b. (after_acts v (cond b [] ((source, Hears (Claim name) frame verdict) ∷ []))).sets) (eq-eqb source s.claims.own is) ∙ whole-list
        ∙ sym (map-none source (λ x. with_holder_name x x.name (holder t source)) (filter (stays t) s.sets)
        (none-filter source (stays t) s.sets (ap (λ q. set_at q s.sets) is ∙ elsewhere-set))))
        (λ ne.
        ap (λ b. (after_acts v (cond b [] ((source, Hears (Claim name) frame verdict) ∷ []))).sets) (ne_eqb source s.claims.own ne)
        ∙ claim-list v source (subst AreApart (sym whole-list) (apart-filter (stays t) s.sets apart)) name frame verdict
        ∙ ap (λ (c : Claimed). map (named_at (record t { claims = c }) source) v.sets) v-claims
        ∙ ap (map (named_at t source)) whole-list)

    claimed-list : (frame : Frame) (verdict : Verdict)
        → (after_acts t (changes_by s t left source ++ heard_at_source s.claims.own source (Claim name) frame verdict)).sets
        ≡ map (named_at t source) (filter (stays t) s.sets)
    claimed-list frame verdict =
        let last = heard_at_source s.claims.own source (Claim name) frame verdict in
        ap (λ (x : State). x.sets) (acts-append t (changes_by s t left source) last)
        ∙ ap (λ (x : State). (after_acts x last).sets) (acts-append t (rebind_former_acts (former_holder s left) t left) (rebind_acts (holder s source) t source))
        ∙ last-list frame verdict

  by-left : (o : Option ℕ) → address_of s.claims.addresses name ≡ o → (frame : Frame) (verdict : Verdict)
      → (after_acts t (changes_by s t (former_address source o) source ++ heard_at_source s.claims.own source (Claim name) frame verdict)).sets
      ≡ map (named_at t source) (filter (stays t) s.sets)
  by-left None e frame verdict = claimed-list None (λ l h. none-some h) (λ q ne _. λ h. none-some (sym e ∙ h)) frame verdict
  by-left (Some l) e frame verdict =
      let last = heard_at_source s.claims.own source (Claim name) frame verdict in
      by_eq l source
      (λ is.
      ap (λ b. (after_acts t (changes_by s t (cond b None (Some l)) source ++ last)).sets) (eq-eqb l source is)
      ∙ claimed-list None (λ k h. none-some h) (λ q ne _. λ h. ne (sym (same_Some l q (sym e ∙ h)) ∙ is)) frame verdict)
      (λ ne.
      ap (λ b. (after_acts t (changes_by s t (cond b None (Some l)) source ++ last)).sets) (ne_eqb l source ne)
      ∙ claimed-list (Some l) (λ k h. λ at. ne (same_Some l k h ∙ at)) (λ q _ other. λ h. other (sym e ∙ h)) frame verdict)

  pub claim-closes : (frame : Frame) (verdict : Verdict) → (after_acts t (acts s source (Claim name) frame verdict)).sets ≡ map (named_at t source) (filter (stays t) s.sets)
  claim-closes frame verdict = by-left (address_of s.claims.addresses name) refl frame verdict

-- ---- an address without a set before has none after

pub none-closed : (q : ℕ) (t : State) (source : ℕ) (sets : List Set) → set_at q sets ≡ None → set_at q (map (named_at t source) (filter (stays t) sets)) ≡ None
none-closed q t source sets none =
    none-map q (named_at t source) (filter (stays t) sets) (named_at-address t source) (none-filter q (stays t) sets none)
