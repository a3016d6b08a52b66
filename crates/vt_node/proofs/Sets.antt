-- The sets in order of registration: the set of an address, and the effect of a write.
use Rattle.std.proofs.Common.{◌≡◌, ◌≢◌, ℕ, List, [], ◌∷◌, None, sym, ap, ◌∙◌, refl}
use Rattle.vt_names.specs.Registry.{Set, set_at, with_set, without}
use Rattle.vt_names.proofs.SetsByAddress.{set_at-first, set_at-later, with_set-first, with_set-later, without-later}
use Rattle.vt_names.proofs.AddressesAfterClaim.{by_eq, none-some}

pub none-same : (a : ℕ) (sets : List Set) → set_at a sets ≡ None → without a sets ≡ sets
none-same a [] none = refl
none-same a (t ∷ sets) none =
    let rest = none-same a sets in
    by_eq t.address a
    (λ is. none-some (sym none ∙ set_at-first a t sets is))
    (λ ne. without-later a t sets ne ∙ ap (λ l. t ∷ l) (rest (sym (set_at-later a t sets ne) ∙ none)))

pub at-with_other : (a : ℕ) (x : Set) (sets : List Set) → x.address ≢ a → set_at a (with_set x sets) ≡ set_at a sets
at-with_other a x [] other = set_at-later a x [] other
at-with_other a x (t ∷ sets) other =
    let rest = at-with_other a x sets other in
    by_eq t.address x.address
    (λ is. ap (set_at a) (with_set-first x t sets is) ∙ set_at-later a x sets other ∙ sym (set_at-later a t sets (λ h. other (sym is ∙ h))))
    (λ ne. ap (set_at a) (with_set-later x t sets ne) ∙ by_eq t.address a
    (λ h. set_at-first a t (with_set x sets) h ∙ sym (set_at-first a t sets h))
    (λ h. set_at-later a t (with_set x sets) h ∙ rest ∙ sym (set_at-later a t sets h)))
