-- A write to one address of the table of pools, of the states or of the sets.
use Rattle.std.proofs.Common.{◌≡◌, ℕ, List, length, get_or, ◌<◌, Option, None, refl, sym, ap, ◌∙◌}
use Rattle.std.specs.Prelude.{slice_set}
use Rattle.vt_names.specs.Registry.{Set, set_at}
use Rattle.vt_node.specs.Nodes.{NodeState}
use Rattle.vt_server.specs.state.AddressViews.{AddressOutcome, Act, unchanged, outcome}
use Rattle.vt_server.specs.state.AddressStates.{SetPool, AddressState, with_content}
use Rattle.vt_machine.specs.SetStates.{SetState}
use Rattle.vt_pool.specs.PoolUploads.{Arrived}
use Rattle.vt_node.proofs.ByAddress.{places-same, places-written, place-written}
use Rattle.vt_server.specs.States.{places_by}
use Rattle.vt_server.specs.state.PoolTables.{bytes_arrived, content_by}
use Rattle.vt_server.specs.Terminals.{State, part, put, after_act, with_set_at}
use Rattle.vt_node.specs.AddressFunctions.{with_at}
use Rattle.vt_server.proofs.lemmas.acts.ComposedActs.{sets-same, act-is}
use Rattle.vt_node.proofs.ByAddress.{at-own, at-other}

-- A write of a pool and an upload at one address.
pub contents-written : (pools : List (Option SetState)) (transfers : List (Option Arrived)) (a n m : ℕ) (pool : Option SetState) (transfer : Option Arrived)
    → n ≡ a → m ≡ a → a < length pools → a < length transfers
    → (λ (q : ℕ). content_by (slice_set pools n pool) (slice_set transfers m transfer) q)
    ≡ with_at a (record { pool = pool; transfer = bytes_arrived transfer }) (content_by pools transfers)
contents-written pools transfers a n m pool transfer is same within inside =
    let written = place-written pools a n pool is within in let uploaded = place-written transfers a m transfer same inside in
    places-written a (content_by pools transfers) (content_by (slice_set pools n pool) (slice_set transfers m transfer)) (record { pool = pool; transfer = bytes_arrived transfer })
    (λ i. record { pool = (ap (λ (f : ℕ → Option SetState). f a) written ∙ at-own a (λ q. get_or pools q None) pool) i; transfer = bytes_arrived ((ap (λ (f : ℕ → Option Arrived). f a) uploaded ∙ at-own a (λ q. get_or transfers q None) transfer) i) })
    (λ b ne. λ i. record { pool = (ap (λ (f : ℕ → Option SetState). f b) written ∙ at-other a b (λ q. get_or pools q None) pool ne) i; transfer = bytes_arrived ((ap (λ (f : ℕ → Option Arrived). f b) uploaded ∙ at-other a b (λ q. get_or transfers q None) transfer ne) i) })

-- A write of an upload at one address.
pub upload-written : (pools : List (Option SetState)) (transfers : List (Option Arrived)) (a n : ℕ) (transfer : Option Arrived) → n ≡ a → a < length transfers
    → (λ (q : ℕ). content_by pools (slice_set transfers n transfer) q)
    ≡ with_at a (record (content_by pools transfers a) { transfer = bytes_arrived transfer }) (content_by pools transfers)
upload-written pools transfers a n transfer is within =
    let uploaded = place-written transfers a n transfer is within in
    places-written a (content_by pools transfers) (content_by pools (slice_set transfers n transfer)) (record (content_by pools transfers a) { transfer = bytes_arrived transfer })
    (λ i. record { pool = get_or pools a None; transfer = bytes_arrived ((ap (λ (f : ℕ → Option Arrived). f a) uploaded ∙ at-own a (λ q. get_or transfers q None) transfer) i) })
    (λ b ne. λ i. record { pool = get_or pools b None; transfer = bytes_arrived ((ap (λ (f : ℕ → Option Arrived). f b) uploaded ∙ at-other a b (λ q. get_or transfers q None) transfer ne) i) })

-- ---- states of addresses with one changed member

pub content-placed : (contents : ℕ → SetPool) (node : NodeState) (heard : ℕ → Option ℕ) (a : ℕ) (x : SetPool)
    → places_by (with_at a x contents) node heard ≡ with_at a (with_content (places_by contents node heard a) x) (places_by contents node heard)
content-placed contents node heard a x =
    places-written a (places_by contents node heard) (places_by (with_at a x contents) node heard) (with_content (places_by contents node heard a) x)
    (ap (λ c. with_content (places_by contents node heard a) c) (at-own a contents x))
    (λ b ne. ap (λ c. with_content (places_by contents node heard b) c) (at-other a b contents x ne))

pub heard-placed : (contents : ℕ → SetPool) (node : NodeState) (heard : ℕ → Option ℕ) (a : ℕ) (x : Option ℕ)
    → places_by contents node (with_at a x heard) ≡ with_at a (record (places_by contents node heard a) { heard = x }) (places_by contents node heard)
heard-placed contents node heard a x =
    places-written a (places_by contents node heard) (places_by contents node (with_at a x heard)) (record (places_by contents node heard a) { heard = x })
    (ap (λ c. record (places_by contents node heard a) { heard = c }) (at-own a heard x))
    (λ b ne. ap (λ c. record (places_by contents node heard b) { heard = c }) (at-other a b heard x ne))

-- ---- states of the terminal

pub state-is : (s : State) (sets : List Set) (places : ℕ → AddressState) → sets ≡ s.sets → places ≡ s.places → record s { sets = sets; places = places } ≡ s
state-is s sets places e f = λ i. record s { sets = e i; places = f i }

-- A write that changes the state of the address, but not its set.
pub put-place : (a : ℕ) (s : State) (after : AddressOutcome) → after.set ≡ set_at a s.sets → put a after s ≡ record s { places = with_at a after.place s.places }
put-place a s after e = ap (λ (sets : List Set). record s { sets = sets; places = with_at a after.place s.places }) (sets-same a s.sets after.set (sym e))

pub put-kept : (a : ℕ) (s : State) (after : AddressOutcome) → after.set ≡ set_at a s.sets → after.place ≡ s.places a → put a after s ≡ s
put-kept a s after e f = put-place a s after e ∙ ap (λ (places : ℕ → AddressState). record s { places = places }) (places-same a s.places after.place (sym f))

-- A write that changes the set alone.
pub put-set : (a : ℕ) (s : State) (after : AddressOutcome) → after.place ≡ s.places a → put a after s ≡ record s { sets = with_set_at a after.set s.sets }
put-set a s after f = ap (λ (places : ℕ → AddressState). record s { sets = with_set_at a after.set s.sets; places = places }) (places-same a s.places after.place (sym f))

-- An act that leaves the view unchanged leaves the state unchanged.
pub idle : (s : State) (a : ℕ) (h : Act) → outcome s.now a (part a s) h ≡ unchanged (part a s) → after_act s a h ≡ s
idle s a h e = act-is s a h ∙ ap (λ after. put a after s) e ∙ put-kept a s (unchanged (part a s)) refl refl
