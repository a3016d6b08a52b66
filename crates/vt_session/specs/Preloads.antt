-- A set with a pool that is there from the start (docs/EMBEDDING.md, "Preloaded sets").
use Rattle.std.specs.Prelude.{◌≡◌, ◌⊎◌, ℕ, ◌==◌, ◌&&◌, Bool, true, not, nat_le, if◌then◌else◌, List, Option, Some, None, is_some}
use Rattle.vt_names.specs.Registry.{set_at}
use Rattle.vt_stores.specs.Stores.{Objects, map_of}
use Rattle.vt_judge.specs.declared.NotAccepted.{NotAccepted}
use Rattle.vt_judge.specs.Judgements.{IsAcceptedPool, IsNotAccepted, wants_memory}
use Rattle.vt_server.specs.shown.Screens.{redraws}
use Rattle.vt_server.specs.Steps.{preloading}
use Rattle.vt_session.specs.declared.session.Session.{Session}
use Rattle.vt_session.specs.Looks.{next_look}
use Rattle.vt_session.specs.Sessions.{Remains, closed, latest, state, waiting}
use Rattle.vt_session.specs.Statuses.{DONE, NO_MEMORY, NO_POOL, NO_SUCH}

-- whether a set may be added at an address: it is at most 253, not the terminal's own, and without a set
abbrev pub is_free : Session → ℕ → Bool
is_free session address =
    nat_le address 253 && (not (address == (state session).claims.own) && not (is_some (set_at address (state session).sets)))

abbrev pub free_address : Session → ℕ → Option ℕ
free_address session address = if is_free session address then Some address else None

-- A set with the accepted pool of the bytes is added, and the shown set is chosen.
pub record IsPreloaded (before : Session) (address : ℕ) (bytes : List ℕ) (after : Session) : Type 0 where
  pub objects : Objects
  pub accepted : IsAcceptedPool bytes objects
  pub state : state after ≡ preloading (state before) address (map_of objects)
  pub redraws : redraws after.terminal ≡ true
  pub looks : after.looks ≡ next_look before.looks
  pub waiting : waiting after ≡ waiting before
  pub latest : latest after ≡ latest before
  pub begun : after.begun ≡ before.begun
  pub text : after.text.items ≡ before.text.items

-- The bytes are no accepted pool, for a reason other than want of memory.
pub record IsNoPool (bytes : List ℕ) : Type 0 where
  pub why : NotAccepted
  pub not_accepted : IsNotAccepted bytes why
  pub not_memory : wants_memory why ≡ true → ⊥

abbrev pub PreloadsAt : Option ℕ → Session → List ℕ → Session → ℕ → Type 0
PreloadsAt None before bytes after status = (status ≡ NO_SUCH) × (after ≡ before)
PreloadsAt (Some address) before bytes after status =
    ((status ≡ DONE) × IsPreloaded before address bytes after)
    ⊎ (((status ≡ NO_MEMORY) × Remains before after) ⊎ ((status ≡ NO_POOL) × (IsNoPool bytes × (after ≡ before))))

abbrev pub PreloadsBy : Option ℕ → Session → ℕ → List ℕ → Session → ℕ → Type 0
PreloadsBy None before address bytes after status = PreloadsAt (free_address before address) before bytes after status
PreloadsBy (Some refusal) before address bytes after status = (status ≡ refusal) × (after ≡ before)

abbrev pub Preloads : Session → ℕ → List ℕ → Session → ℕ → Type 0
Preloads before address bytes after status = PreloadsBy (closed before) before address bytes after status
