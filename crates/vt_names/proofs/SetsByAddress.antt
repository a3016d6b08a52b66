-- Sets filed under their addresses.
use Rattle.std.proofs.Common.{◌≡◌, ◌≢◌, ℕ, Bool, true, false, cond, eqb, nat_eq, if◌then◌else◌, not, List, [], ◌∷◌, Option, Some, None, true≢false, refl, sym, ap, subst, ◌∙◌, eq-eqb, ne_eqb}
use Rattle.std.proofs.lemmas.Option.{same_Some}
use Rattle.std.specs.Map.{lookup, remove_entry, set_value, keys_of, values_of}
use Rattle.indexmap.specs.IndexMap.{insert_entry}
use Rattle.std.specs.List.{AllByRecursion, IsDistinct}
use Rattle.std.proofs.lemmas.Map.Keys.{IsDistinct-head, IsDistinct-tail}
use Rattle.vt_names.specs.Registry.{Set, Registered, AreApart, AreFiled, set_at, with_set, without, has_place, with_member, joining, bound, binding}
use Rattle.vt_names.proofs.AddressesAfterClaim.{by_eq, none-some}

-- ---- the first set, and the sets after it

pub set_at-first : (a : ℕ) (s : Set) (sets : List Set) → s.address ≡ a → set_at a (s ∷ sets) ≡ Some s
set_at-first a s sets h = ap (λ b. cond b (Some s) (set_at a sets)) (eq-eqb s.address a h)

pub set_at-later : (a : ℕ) (s : Set) (sets : List Set) → s.address ≢ a → set_at a (s ∷ sets) ≡ set_at a sets
set_at-later a s sets h = ap (λ b. cond b (Some s) (set_at a sets)) (ne_eqb s.address a h)

pub with_set-first : (new s : Set) (sets : List Set) → s.address ≡ new.address → with_set new (s ∷ sets) ≡ new ∷ sets
with_set-first new s sets h = ap (λ b. cond b (new ∷ sets) (s ∷ with_set new sets)) (eq-eqb s.address new.address h)

pub with_set-later : (new s : Set) (sets : List Set) → s.address ≢ new.address → with_set new (s ∷ sets) ≡ s ∷ with_set new sets
with_set-later new s sets h = ap (λ b. cond b (new ∷ sets) (s ∷ with_set new sets)) (ne_eqb s.address new.address h)

pub without-first : (a : ℕ) (s : Set) (sets : List Set) → s.address ≡ a → without a (s ∷ sets) ≡ without a sets
without-first a s sets h = ap (λ b. cond (not b) (s ∷ without a sets) (without a sets)) (eq-eqb s.address a h)

pub without-later : (a : ℕ) (s : Set) (sets : List Set) → s.address ≢ a → without a (s ∷ sets) ≡ s ∷ without a sets
without-later a s sets h = ap (λ b. cond (not b) (s ∷ without a sets) (without a sets)) (ne_eqb s.address a h)

-- ---- entries

abbrev pub found : ℕ → List (ℕ × Set) → Option Set
found a es = lookup (nat_eq a) es

pub found-set : (a : ℕ) (es : List (ℕ × Set)) → AreFiled es → found a es ≡ set_at a (values_of es)
found-set a [] filed = refl
found-set a (e ∷ es) filed =
    let rest = found-set a es filed.1 in
    by_eq a e.0
    (λ is. ap (λ b. cond b (Some e.1) (found a es)) (eq-eqb a e.0 is) ∙ sym (set_at-first a e.1 (values_of es) (sym (is ∙ filed.0))))
    (λ ne. ap (λ b. cond b (Some e.1) (found a es)) (ne_eqb a e.0 ne) ∙ rest ∙ sym (set_at-later a e.1 (values_of es) (λ h. ne (sym (filed.0 ∙ h)))))

pub filed-inserted : (s : Set) (es : List (ℕ × Set)) → AreFiled es → AreFiled (insert_entry nat_eq es s.address s)
filed-inserted s [] filed = (refl, tt)
filed-inserted s (e ∷ es) filed =
    let rest = filed-inserted s es filed.1 in
    let made : Bool → List (ℕ × Set) = λ b. cond b ((e.0, s) ∷ es) (e ∷ insert_entry nat_eq es s.address s) in
    by_eq s.address e.0
    (λ is. subst (λ b. AreFiled (made b)) (sym (eq-eqb s.address e.0 is)) (sym is, filed.1))
    (λ ne. subst (λ b. AreFiled (made b)) (sym (ne_eqb s.address e.0 ne)) (filed.0, rest))

pub values-inserted : (s : Set) (es : List (ℕ × Set)) → AreFiled es → values_of (insert_entry nat_eq es s.address s) ≡ with_set s (values_of es)
values-inserted s [] filed = refl
values-inserted s (e ∷ es) filed =
    let rest = values-inserted s es filed.1 in
    let made : Bool → List (ℕ × Set) = λ b. cond b ((e.0, s) ∷ es) (e ∷ insert_entry nat_eq es s.address s) in
    by_eq s.address e.0
    (λ is. ap (λ b. values_of (made b)) (eq-eqb s.address e.0 is) ∙ sym (with_set-first s e.1 (values_of es) (sym (is ∙ filed.0))))
    (λ ne. ap (λ b. values_of (made b)) (ne_eqb s.address e.0 ne) ∙ ap (λ l. e.1 ∷ l) rest ∙ sym (with_set-later s e.1 (values_of es) (λ h. ne (sym (filed.0 ∙ h)))))

pub filed-written : (a : ℕ) (s : Set) (es : List (ℕ × Set)) → s.address ≡ a → AreFiled es → AreFiled (set_value (nat_eq a) es s)
filed-written a s [] same filed = tt
filed-written a s (e ∷ es) same filed =
    let rest = filed-written a s es same filed.1 in
    let made : Bool → List (ℕ × Set) = λ b. cond b ((e.0, s) ∷ es) (e ∷ set_value (nat_eq a) es s) in
    by_eq a e.0
    (λ is. subst (λ b. AreFiled (made b)) (sym (eq-eqb a e.0 is)) (sym (same ∙ is), filed.1))
    (λ ne. subst (λ b. AreFiled (made b)) (sym (ne_eqb a e.0 ne)) (filed.0, rest))

pub values-written : (a : ℕ) (s was : Set) (es : List (ℕ × Set)) → s.address ≡ a → found a es ≡ Some was → AreFiled es
    → values_of (set_value (nat_eq a) es s) ≡ with_set s (values_of es)
values-written a s was [] same there filed = none-some there
values-written a s was (e ∷ es) same there filed =
    let rest = values-written a s was es same in
    let made : Bool → List (ℕ × Set) = λ b. cond b ((e.0, s) ∷ es) (e ∷ set_value (nat_eq a) es s) in
    by_eq a e.0
    (λ is. ap (λ b. values_of (made b)) (eq-eqb a e.0 is) ∙ sym (with_set-first s e.1 (values_of es) (sym (same ∙ is ∙ filed.0))))
    (λ ne.
    ap (λ b. values_of (made b)) (ne_eqb a e.0 ne)
    ∙ ap (λ l. e.1 ∷ l) (rest (sym (ap (λ b. cond b (Some e.1) (found a es)) (ne_eqb a e.0 ne)) ∙ there) filed.1)
    ∙ sym (with_set-later s e.1 (values_of es) (λ h. ne (sym (filed.0 ∙ h ∙ same)))))

pub filed-removed : (a : ℕ) (es : List (ℕ × Set)) → AreFiled es → AreFiled (remove_entry (nat_eq a) es)
filed-removed a [] filed = tt
filed-removed a (e ∷ es) filed =
    let rest = filed-removed a es filed.1 in
    let left : Bool → List (ℕ × Set) = λ b. cond b es (e ∷ remove_entry (nat_eq a) es) in
    by_eq a e.0
    (λ is. subst (λ b. AreFiled (left b)) (sym (eq-eqb a e.0 is)) filed.1)
    (λ ne. subst (λ b. AreFiled (left b)) (sym (ne_eqb a e.0 ne)) (filed.0, rest))

absent : (a : ℕ) (es : List (ℕ × Set)) → AllByRecursion (λ y. eqb a y ≡ false) (keys_of es) → AreFiled es → without a (values_of es) ≡ values_of es
absent a [] apart filed = refl
absent a (e ∷ es) apart filed =
    without-later a e.1 (values_of es) (λ h. true≢false (sym (eq-eqb a e.0 (sym (filed.0 ∙ h))) ∙ apart.0))
    ∙ ap (λ l. e.1 ∷ l) (absent a es apart.1 filed.1)

pub values-removed : (a : ℕ) (es : List (ℕ × Set)) → AreFiled es → IsDistinct nat_eq (keys_of es)
    → values_of (remove_entry (nat_eq a) es) ≡ without a (values_of es)
values-removed a [] filed distinct = refl
values-removed a (e ∷ es) filed distinct =
    let rest = values-removed a es filed.1 (IsDistinct-tail nat_eq e.0 (keys_of es) distinct) in
    let left : Bool → List (ℕ × Set) = λ b. cond b es (e ∷ remove_entry (nat_eq a) es) in
    by_eq a e.0
    (λ is.
    ap (λ b. values_of (left b)) (eq-eqb a e.0 is)
    ∙ sym (without-first a e.1 (values_of es) (sym (is ∙ filed.0))
    ∙ subst (λ x. without x (values_of es) ≡ values_of es) (sym is) (absent e.0 es (IsDistinct-head nat_eq e.0 (keys_of es) distinct) filed.1)))
    (λ ne.
    ap (λ b. values_of (left b)) (ne_eqb a e.0 ne) ∙ ap (λ l. e.1 ∷ l) rest
    ∙ sym (without-later a e.1 (values_of es) (λ h. ne (sym (filed.0 ∙ h)))))

nowhere : (a : ℕ) (es : List (ℕ × Set)) → AllByRecursion (λ y. eqb a y ≡ false) (keys_of es) → AreFiled es → set_at a (values_of es) ≡ None
nowhere a [] apart filed = refl
nowhere a (e ∷ es) apart filed =
    set_at-later a e.1 (values_of es) (λ h. true≢false (sym (eq-eqb a e.0 (sym (filed.0 ∙ h))) ∙ apart.0))
    ∙ nowhere a es apart.1 filed.1

pub apart-values : (es : List (ℕ × Set)) → AreFiled es → IsDistinct nat_eq (keys_of es) → AreApart (values_of es)
apart-values [] filed distinct = tt
apart-values (e ∷ es) filed distinct = (
  subst (λ a. set_at a (values_of es) ≡ None) filed.0 (nowhere e.0 es (IsDistinct-head nat_eq e.0 (keys_of es) distinct) filed.1),
  apart-values es filed.1 (IsDistinct-tail nat_eq e.0 (keys_of es) distinct),
)

-- ---- an existing set, and its replacement

pub set_at-address : (a : ℕ) (s : Set) (sets : List Set) → set_at a sets ≡ Some s → s.address ≡ a
set_at-address a s [] there = none-some there
set_at-address a s (t ∷ sets) there =
    let rest = set_at-address a s sets in
    by_eq t.address a
    (λ is. ap (λ (x : Set). x.address) (sym (same_Some t s (sym (set_at-first a t sets is) ∙ there))) ∙ is)
    (λ ne. rest (sym (set_at-later a t sets ne) ∙ there))

pub with_set-same : (a : ℕ) (s : Set) (sets : List Set) → set_at a sets ≡ Some s → with_set s sets ≡ sets
with_set-same a s [] there = none-some there
with_set-same a s (t ∷ sets) there =
    let rest = with_set-same a s sets in
    let own = set_at-address a s (t ∷ sets) there in
    by_eq t.address a
    (λ is. with_set-first s t sets (is ∙ sym own) ∙ ap (λ (x : Set). x ∷ sets) (sym (same_Some t s (sym (set_at-first a t sets is) ∙ there))))
    (λ ne. with_set-later s t sets (λ h. ne (h ∙ own)) ∙ ap (λ l. t ∷ l) (rest (sym (set_at-later a t sets ne) ∙ there)))

abbrev pub after_join : Set → ℕ → Set
after_join s name = if has_place s then with_member s name else s

after_join-address : (b : Bool) (s : Set) (name : ℕ) → (cond b (with_member s name) s).address ≡ s.address
after_join-address true s name = refl
after_join-address false s name = refl

join_cases : (b : Bool) (a name : ℕ) (s : Set) (sets : List Set) → set_at a sets ≡ Some s
    → with_set (cond b (with_member s name) s) sets ≡ cond b (with_set (with_member s name) sets) sets
join_cases true a name s sets there = refl
join_cases false a name s sets there = with_set-same a s sets there

-- ---- the set of an address, after an insertion or a removal

pub at-with : (q : ℕ) (new : Set) (sets : List Set) → set_at q (with_set new sets) ≡ cond (eqb new.address q) (Some new) (set_at q sets)
at-with q new [] = refl
at-with q new (s ∷ sets) =
    let rest = at-with q new sets in
    by_eq s.address new.address
    (λ is. ap (set_at q) (with_set-first new s sets is)
    ∙ by_eq new.address q
    (λ own. set_at-first q new sets own ∙ sym (ap (λ b. cond b (Some new) (set_at q (s ∷ sets))) (eq-eqb new.address q own)))
    (λ other. set_at-later q new sets other ∙ sym (set_at-later q s sets (λ h. other (sym is ∙ h)))
    ∙ sym (ap (λ b. cond b (Some new) (set_at q (s ∷ sets))) (ne_eqb new.address q other))))
    (λ ne. ap (set_at q) (with_set-later new s sets ne)
    ∙ by_eq s.address q
    (λ own. set_at-first q s (with_set new sets) own
    ∙ sym (set_at-first q s sets own)
    ∙ sym (ap (λ b. cond b (Some new) (set_at q (s ∷ sets))) (ne_eqb new.address q (λ h. ne (own ∙ sym h)))))
    (λ other. set_at-later q s (with_set new sets) other ∙ rest
    ∙ sym (ap (cond (eqb new.address q) (Some new)) (set_at-later q s sets other))))

pub at-without : (q a : ℕ) (sets : List Set) → set_at q (without a sets) ≡ cond (eqb a q) None (set_at q sets)
at-without q a [] = none (eqb a q)
  where
    none : (b : Bool) → None ≡ cond {A = Option Set} b None None
    none true = refl
    none false = refl
at-without q a (s ∷ sets) =
    let rest = at-without q a sets in
    by_eq s.address a
    (λ is. ap (set_at q) (without-first a s sets is) ∙ rest
    ∙ by_eq a q
    (λ own. ap (λ b. cond b None (set_at q sets)) (eq-eqb a q own) ∙ sym (ap (λ b. cond b None (set_at q (s ∷ sets))) (eq-eqb a q own)))
    (λ other. ap (cond (eqb a q) None) (sym (set_at-later q s sets (λ h. other (sym is ∙ h))))))
    (λ ne. ap (set_at q) (without-later a s sets ne)
    ∙ by_eq s.address q
    (λ own. set_at-first q s (without a sets) own ∙ sym (set_at-first q s sets own)
    ∙ sym (ap (λ b. cond b None (set_at q (s ∷ sets))) (ne_eqb a q (λ h. ne (own ∙ sym h)))))
    (λ other. set_at-later q s (without a sets) other ∙ rest ∙ sym (ap (cond (eqb a q) None) (set_at-later q s sets other))))

-- the set of an address in a registry, before and after a change of that set
module _ (a : ℕ) (es : List (ℕ × Set)) (r : Registered) (filed : AreFiled es) (view : ◌≡◌ {A = List Set} (values_of es) r.sets) where
  pub set-there : (s : Set) → Some s ≡ found a es → set_at a r.sets ≡ Some s
  set-there s there = sym (there ∙ found-set a es filed ∙ ap (set_at a) view)

  pub set-absent : None ≡ found a es → set_at a r.sets ≡ None
  set-absent none = sym (none ∙ found-set a es filed ∙ ap (set_at a) view)

  pub written-filed : (s new : Set) → Some s ≡ found a es → new.address ≡ s.address → AreFiled (set_value (nat_eq a) es new)
  written-filed s new there same = filed-written a new es (same ∙ set_at-address a s r.sets (set-there s there)) filed

  pub written-sets : (s new : Set) → Some s ≡ found a es → new.address ≡ s.address → values_of (set_value (nat_eq a) es new) ≡ with_set new r.sets
  written-sets s new there same =
      values-written a new s es (same ∙ set_at-address a s r.sets (set-there s there)) (sym there) filed ∙ ap (with_set new) view

  pub joined-address : (s new : Set) (name : ℕ) → new ≡ after_join s name → new.address ≡ s.address
  joined-address s new name is = ap (λ (x : Set). x.address) is ∙ after_join-address (has_place s) s name

  pub joined-sets : (s new : Set) (name : ℕ) → Some s ≡ found a es → new ≡ after_join s name
      → values_of (set_value (nat_eq a) es new) ≡ joining (set_at a r.sets) name r.sets
  joined-sets s new name there is =
      written-sets s new there (joined-address s new name is)
      ∙ ap (λ (x : Set). with_set x r.sets) is
      ∙ join_cases (has_place s) a name s r.sets (set-there s there)
      ∙ sym (ap (λ o. joining o name r.sets) (set-there s there))

  pub bound-sets : (s new : Set) (name : ℕ) → Some s ≡ found a es → new ≡ bound s name
      → values_of (set_value (nat_eq a) es new) ≡ binding (set_at a r.sets) name r.sets
  bound-sets s new name there is =
      written-sets s new there (ap (λ (x : Set). x.address) is)
      ∙ ap (λ (x : Set). with_set x r.sets) is
      ∙ sym (ap (λ o. binding o name r.sets) (set-there s there))
