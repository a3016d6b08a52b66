-- Address claims (ISO 11783-5; docs/PROFILE.md, "The holder of an address").
use Rattle.std.specs.Prelude.{◌≡◌, ◌≢◌, ◌≤◌, ◌<◌, ℕ, Bool, get_or, ◌==◌, nat_eq, nat_lt, ◌&&◌, if◌then◌else◌, List, [], ◌∷◌, Option, Some, None, refl}
use Rattle.std.specs.Ordering.{nat_cmp}
use Rattle.std.specs.Map.{lookup, remove_entry}
use Rattle.std.specs.Option.{option_eq}
use Rattle.std.specs.BTreeMap.{insert_entry, is_at}
use Rattle.std.specs.BTreeSet.{BTreeSet, contains}
use Rattle.std.specs.Coded.{Coded, code_by, coded×, coded_ℕ, coded_list}
use Rattle.vt_names.specs.declared.claims.ClaimMeaning.{ClaimMeaning}
use Rattle.vt_names.specs.declared.claims.ClaimMeaning.TheVariants.{Nothing, Defend, Lost}

-- ---- addresses and holders by all claims received

pub record Claim : Type 0 where
  pub address : ℕ
  pub name : ℕ

-- The address claimed by a claim from an address: none for the null address.
abbrev pub claimed_address : ℕ → Option ℕ
claimed_address address = if address == 254 then None else Some address

-- The address of a NAME: that of its last claim. Lists of claims have the latest first.
abbrev pub last_claimed : List Claim → ℕ → Option ℕ
last_claimed [] name = None
last_claimed (claim ∷ earlier) name = if name == claim.name then claimed_address claim.address else last_claimed earlier name

-- the holder of an address: the least NAME among those whose last claim was of it
abbrev pub IsHolder : List Claim → ℕ → Option ℕ → Type 0
IsHolder claims address None = (name : ℕ) → last_claimed claims name ≢ Some address
IsHolder claims address (Some holder) =
    (last_claimed claims holder ≡ Some address)
    × ((name : ℕ) → last_claimed claims name ≡ Some address → holder ≤ name)

-- ---- the recorded addresses

-- the address of each NAME that has one, by rising NAME
abbrev pub Addresses : Type 0
Addresses = List (ℕ × ℕ)

abbrev pub AllAbove : ℕ → Addresses → Type 0
AllAbove name [] = Unit {0}
AllAbove name (e ∷ addresses) = (name < e.0) × AllAbove name addresses

-- the addresses are sorted by NAME, and each NAME is unique
abbrev pub IsRisingByName : Addresses → Type 0
IsRisingByName [] = Unit {0}
IsRisingByName (e ∷ addresses) = AllAbove e.0 addresses × IsRisingByName addresses

-- a node: its address, its NAME, and the recorded addresses
pub record Claimed : Type 0 where
  pub own : ℕ
  pub name : ℕ
  pub addresses : Addresses

abbrev pub claimed_code : Coded Claimed
claimed_code =
    code_by (ℕ × (ℕ × Addresses)) (coded× coded_ℕ (coded× coded_ℕ (coded_list (coded× coded_ℕ coded_ℕ))))
    (λ c. (c.own, (c.name, c.addresses))) (λ p. record { own = p.0; name = p.1.0; addresses = p.1.1 }) (λ _. refl)

abbrev pub with_address : Addresses → ℕ → Option ℕ → Addresses
with_address addresses name None = remove_entry (is_at (nat_cmp name)) addresses
with_address addresses name (Some address) = insert_entry nat_cmp addresses name address

-- the recorded addresses after one claim
abbrev pub after_claim : Addresses → ℕ → ℕ → Addresses
after_claim addresses address name = with_address addresses name (claimed_address address)

abbrev pub heard : Claimed → ℕ → ℕ → Claimed
heard c address name = record c { addresses = after_claim c.addresses address name }

-- The address of a NAME, and the holder of an address: the first NAME that has it.
abbrev pub address_of : Addresses → ℕ → Option ℕ
address_of addresses name = lookup (is_at (nat_cmp name)) addresses

abbrev pub holder_of : Addresses → ℕ → Option ℕ
holder_of [] address = None
holder_of (e ∷ addresses) address = if e.1 == address then Some e.0 else holder_of addresses address

-- A claim of the own address by a lower NAME means its loss; by a greater NAME, a new claim of this node.
abbrev pub answer : Claimed → ℕ → ℕ → ClaimMeaning
answer c address name =
    if address == c.own then (if nat_lt name c.name then Lost else if nat_lt c.name name then Defend else Nothing)
    else Nothing

-- ---- The recorded addresses and holders are those of all claims received.

abbrev pub after_claims : List Claim → Addresses
after_claims [] = []
after_claims (claim ∷ earlier) = after_claim (after_claims earlier) claim.address claim.name

abbrev pub AddressesAreLast : Type 0
AddressesAreLast = (claims : List Claim) (name : ℕ) → address_of (after_claims claims) name ≡ last_claimed claims name

abbrev pub HoldersAreLeast : Type 0
HoldersAreLeast = (claims : List Claim) (address : ℕ) → IsHolder claims address (holder_of (after_claims claims) address)

-- ---- A claim changes the holders of two addresses at most: the former address of its NAME, and the claimed one.

pub record OtherHoldersStay : Type 0 where
  pub rising : (addresses : Addresses) (address name : ℕ) → IsRisingByName addresses → IsRisingByName (after_claim addresses address name)
  pub others : (addresses : Addresses) (address name other : ℕ) → IsRisingByName addresses
      → other ≢ address → address_of addresses name ≢ Some other
      → holder_of (after_claim addresses address name) other ≡ holder_of addresses other

-- ---- the index of NAMEs by address

-- a set of NAMEs for each address
abbrev pub NameSets : Type 0
NameSets = List (BTreeSet ℕ)

abbrev pub has_name : NameSets → ℕ → ℕ → Bool
has_name sets address name = contains nat_cmp (get_or sets address (record { keys = [] })) name

-- the set of each address has exactly the NAMEs with that address
pub record AreHolders (sets : NameSets) (addresses : Addresses) : Type 0 where
  pub rising : IsRisingByName addresses
  pub exact : (address name : ℕ) → address < 256 → has_name sets address name ≡ option_eq nat_eq (address_of addresses name) (Some address)

-- one NAME is added to the set of an address or removed from it; without an address nothing changes
abbrev pub ChangesOnly : NameSets → NameSets → Option ℕ → ℕ → Bool → Type 0
ChangesOnly old new at name has = (address other : ℕ) → address < 256 → has_name new address other
    ≡ (if option_eq nat_eq at (Some address) && other == name then has else has_name old address other)
