-- The working sets, in order of registration (ISO 11783-6; docs/PROFILE.md, "Working sets").
use Rattle.std.specs.Prelude.{◌≡◌, ℕ, suc, ◌==◌, Bool, not, nat_lt, if◌then◌else◌, List, [], ◌∷◌, ◌++◌, length, filter, Option, Some, None, refl}
use Rattle.std.specs.Coded.{Coded, code_by, coded×, coded_ℕ, coded_list, coded_option}

-- a set: the address of its master, its NAME, the number of its members with the master, and the NAMEs of the others
pub record Set : Type 0 where
  pub address : ℕ
  pub name : Option ℕ
  pub count : ℕ
  pub members : List ℕ

abbrev pub set_code : Coded Set
set_code =
    code_by (ℕ × (Option ℕ × (ℕ × List ℕ))) (coded× coded_ℕ (coded× (coded_option coded_ℕ) (coded× coded_ℕ (coded_list coded_ℕ))))
    (λ s. (s.address, (s.name, (s.count, s.members))))
    (λ p. record { address = p.0; name = p.1.0; count = p.1.1.0; members = p.1.1.1 }) (λ _. refl)

-- the sets in order, and the capacity reserved for one more, 1 or 0
pub record Registered : Type 0 where
  pub sets : List Set
  pub capacity : ℕ

abbrev pub registered_code : Coded Registered
registered_code =
    code_by (List Set × ℕ) (coded× (coded_list set_code) coded_ℕ)
    (λ r. (r.sets, r.capacity)) (λ p. record { sets = p.0; capacity = p.1 }) (λ _. refl)

abbrev pub is_of : ℕ → Set → Bool
is_of address set = set.address == address

-- the set of an address
abbrev pub set_at : ℕ → List Set → Option Set
set_at address [] = None
set_at address (set ∷ sets) = if is_of address set then Some set else set_at address sets

-- The list with a set: it replaces the set of its address, or comes last if there is none.
abbrev pub with_set : Set → List Set → List Set
with_set new [] = new ∷ []
with_set new (set ∷ sets) = if is_of new.address set then new ∷ sets else set ∷ with_set new sets

-- the sets of other addresses, in their order
abbrev pub without : ℕ → List Set → List Set
without address sets = filter (λ set. not (is_of address set)) sets

-- the number of members for a count, where 0 means 1
abbrev pub member_count : ℕ → ℕ
member_count count = if count == 0 then 1 else count

-- ---- changes of the registry

abbrev pub mastered : ℕ → ℕ → ℕ → Set
mastered address name count = record { address = address; name = Some name; count = member_count count; members = [] }

-- the sets after a master message, with the holder of its address
abbrev pub registering : ℕ → Option ℕ → ℕ → List Set → List Set
registering address None count sets = sets
registering address (Some holder) count sets = with_set (mastered address holder count) sets

-- the set has fewer members than its count less one
abbrev pub has_place : Set → Bool
has_place set = nat_lt (suc (length set.members)) set.count

abbrev pub with_member : Set → ℕ → Set
with_member set name = record set { members = set.members ++ name ∷ [] }

-- the sets after a member message, with the set of its address
abbrev pub joining : Option Set → ℕ → List Set → List Set
joining None name sets = sets
joining (Some set) name sets = if has_place set then with_set (with_member set name) sets else sets

abbrev pub preloaded : ℕ → Set
preloaded address = record { address = address; name = None; count = 1; members = [] }

abbrev pub bound : Set → ℕ → Set
bound set name = record set { name = Some name }

abbrev pub binding : Option Set → ℕ → List Set → List Set
binding None name sets = sets
binding (Some set) name sets = with_set (bound set name) sets

abbrev pub IsUnnamed : Option Set → Type 0
IsUnnamed None = ⊥
IsUnnamed (Some set) = set.name ≡ None

-- no two sets have the same address
abbrev pub AreApart : List Set → Type 0
AreApart [] = Unit {0}
AreApart (set ∷ sets) = (set_at set.address sets ≡ None) × AreApart sets

-- ---- sets kept by address

-- each set is filed under its address
abbrev pub AreFiled : List (ℕ × Set) → Type 0
AreFiled [] = Unit {0}
AreFiled (e ∷ entries) = (e.0 ≡ e.1.address) × AreFiled entries
