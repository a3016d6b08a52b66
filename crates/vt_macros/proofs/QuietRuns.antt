-- Runs of quiet macros keep the look of a store.
use Rattle.std.proofs.Common.{◌≡◌, ◌⊎◌, inl, inr, ◌≤◌, ℕ, zero, suc, Bool, true, false, cond, ◌&&◌, ◌||◌, List, [], ◌∷◌, ◌++◌, map, set, length, Option, Some, None, is_ok, refl, sym, ap, ap₂, subst, ◌∙◌, arith}
use Rattle.std.specs.Prelude.{slice_index_or}
use Rattle.std.specs.Option.{option_map}
use Rattle.std.specs.List.{AllByRecursion, list_all}
use Rattle.std.specs.FinMap as finite
use Rattle.vt_kinds.specs.declared.kind.Kind.{Kind}
use Rattle.vt_kinds.specs.Records.{Seen, kind_of}
use Rattle.vt_commands.specs.declared.command.Command.{Command}
use Rattle.vt_commands.specs.declared.command.Command.TheVariants.{HideShow, ChangeActiveMask}
use Rattle.vt_commands.specs.declared.raising.Raised.{Raised}
use Rattle.vt_commands.specs.Events.{row_events}
use Rattle.vt_commands.specs.Targets.{object_of}
use Rattle.vt_stores.specs.Shapes.{Shape, kind_at}
use Rattle.vt_stores.specs.Stores.{ObjectMap}
use Rattle.vt_stores.proofs.ObjectShapes.{kind_found}
use Rattle.vt_verify.specs.declared.listing.Listing.{Listing}
use Rattle.vt_verify.specs.Macros.{commands}
use Rattle.vt_verify.specs.Triggers.{listing_of, listed}
use Rattle.vt_verify.specs.TriggerGraphs.{Groups, AreListings}
use Rattle.vt_effects.specs.Changes.{left}
use Rattle.vt_effects.specs.Effects.{kind_in, effect, after}
use Rattle.vt_effects.specs.Looks.{HaveSameLook, look, writes_unseen, writes_same, keeps_look, keeps_look_of, object_for}
use Rattle.vt_effects.specs.Soundness.{shape_in}
use Rattle.vt_effects.proofs.lemmas.looks.SameLook.{looks_are_kept}
use Rattle.vt_effects.proofs.lemmas.stores.SameShape.{shapes_stay}
use Rattle.vt_macros.specs.declared.index.Index.{Index}
use Rattle.vt_macros.specs.declared.index.Span.{Span}
use Rattle.vt_macros.specs.Indexes.{IsIndexOf, are_quiet_events, command_in, is_quiet_event, pieces_in}
use Rattle.vt_macros.specs.Machines.{Stuck, Spent, End, Sticks, or_sticks, store_of, events_of, raised, event_commands, joined_all, fault, follow_ups, run, total_budget}
use Rattle.vt_macros.specs.QuietMacros.{is_unseen_of, is_unseen_for, is_unseen_in, is_quiet_at, are_quiet, is_quiet, is_quiet_in, AreQuiet, KeepsLook, QuietRunsKeepLooks}
use Rattle.vt_macros.proofs.MacroTargetsExist.{all_append, all_flat}
use Rattle.vt_macros.proofs.RunsEnd.{run_none, run_step}

first : (a b : Bool) → (a && b) ≡ true → a ≡ true
first true b e = refl
first false b e = absurd cc

second : (a b : Bool) → (a && b) ≡ true → b ≡ true
second true b e = e
second false b e = absurd cc

both : (a b : Bool) → a ≡ true → b ≡ true → (a && b) ≡ true
both true b left right = right
both false b left right = absurd cc

-- all elements pass a test, one by one
each : {A : Type 0} (test : A → Bool) (xs : List A) → list_all test xs ≡ true → AllByRecursion (λ x. test x ≡ true) xs
each test [] all = tt
each test (x ∷ xs) all = (first (test x) (list_all test xs) all, each test xs (second (test x) (list_all test xs) all))

all_map : {A : Type 0} (P Q : A → Type 0) (xs : List A) → ((x : A) → P x → Q x) → AllByRecursion P xs → AllByRecursion Q xs
all_map P Q [] of all = tt
all_map P Q (x ∷ xs) of all = (of x all.0, all_map P Q xs of all.1)

-- ---- the commands of quiet macros

module _ (shape : Shape) (known : List Bool) (quiet : AreQuiet shape known) where
  abbrev Quiet : Command → Type 0
  Quiet command = is_quiet shape known command ≡ true

  joined_quiet : (event : Listing) → is_quiet_at shape known event ≡ true → AllByRecursion Quiet (event_commands shape event)
  unfolding event_commands
  joined_quiet event is =
      all_flat Quiet (commands shape) (listed shape event)
      (all_map (λ id. slice_index_or known id false ≡ true) (λ id. AllByRecursion Quiet (commands shape id)) (listed shape event) quiet
      (each (λ id. slice_index_or known id false) (listed shape event) is))

  pub all_joined_quiet : (raised : List Raised) → are_quiet shape known raised ≡ true → AllByRecursion Quiet (joined_all shape raised)
  all_joined_quiet raised are =
      all_flat Quiet (λ r. event_commands shape (listing_of r)) raised
      (all_map (λ r. is_quiet_at shape known (listing_of r) ≡ true) (λ r. AllByRecursion Quiet (event_commands shape (listing_of r))) raised
      (λ r is. joined_quiet (listing_of r) is)
      (each (λ r. is_quiet_at shape known (listing_of r)) raised are))

-- ---- a quiet command

mask_unseen : (set mask : ℕ) (kind : Option Kind) → is_unseen_of (ChangeActiveMask set mask) kind ≡ true → ⊥
mask_unseen set mask None is = absurd cc
mask_unseen set mask (Some kind) is = absurd cc

-- a command that writes no field in a text raises the events of its row
row_alone : (shape : Shape) (store : ObjectMap) (command : Command) → is_unseen_in shape command ≡ true → events_of store command ≡ row_events command
row_alone shape store (ChangeActiveMask set mask) is = absurd (mask_unseen set mask (kind_at shape set) is)
row_alone shape store (HideShow id state) is = refl
row_alone shape store _ is = refl

pub kind_there : (store : ObjectMap) (id : ℕ) → kind_at (shape_in store) id ≡ kind_in store id
unfolding shape_in
kind_there store id = kind_found (finite.entries store) id ∙ sym (ap (option_map kind_of) (finite.get-entries store id))

either : (a b : Bool) → a ≡ true → (a || b) ≡ true
either true b e = refl
either false b e = absurd cc

keeps_of : (command : Command) (o : Option Seen) → is_unseen_of command (option_map kind_of o) ≡ true → keeps_look_of command o ≡ true
keeps_of command None is = refl
keeps_of command (Some o) is = either (writes_unseen command (kind_of o)) (writes_same command o) is

keeps_for : (store : ObjectMap) (command : Command) (object : Option ℕ) → is_unseen_for (shape_in store) command object ≡ true
    → keeps_look_of command (object_for store object) ≡ true
keeps_for store command None is = refl
keeps_for store command (Some id) is =
    keeps_of command (finite.get store id) (subst (λ (kind : Option Kind). is_unseen_of command kind ≡ true) (kind_there store id) is)

unseen_keeps : (store : ObjectMap) (command : Command) → is_unseen_in (shape_in store) command ≡ true → HaveSameLook store (after store command)
unseen_keeps store command is = looks_are_kept store command (keeps_for store command (object_of command) is)

-- ---- runs

same_look : (one two : ObjectMap) → one ≡ two → HaveSameLook one two
same_look one two is id = ap (λ (m : ObjectMap). option_map look (finite.get m id)) (sym is)

-- a store, or the store that a next step leads to
or_next : (found : Option Stuck) (store : ObjectMap) (next : End) → HaveSameLook store (store_of next) → HaveSameLook store (store_of (or_sticks found store next))
or_next None store next same = same
or_next (Some why) store next same = λ id. refl

run_spent : (store : ObjectMap) (command : Command) (pending : List Command) → HaveSameLook store (store_of (run zero store (command ∷ pending)))
unfolding run
run_spent store command pending = or_next (fault (shape_in store) command) store (Sticks Spent store) (λ id. refl)

raised_quiet : (shape : Shape) (known : List Bool) (store : ObjectMap) (command : Command) → is_quiet shape known command ≡ true
    → are_quiet shape known (raised store command) ≡ true
unfolding raised
raised_quiet shape known store command is = by (is_ok (effect store command))
  where
    row : are_quiet shape known (row_events command) ≡ true
    row = second (is_unseen_in shape command) (are_quiet shape known (row_events command)) is

    by : (b : Bool) → are_quiet shape known (cond b (events_of store command) []) ≡ true
    by true =
        subst (λ (raised : List Raised). are_quiet shape known raised ≡ true)
        (sym (row_alone shape store command (first (is_unseen_in shape command) (are_quiet shape known (row_events command)) is))) row
    by false = refl

follow_quiet : (shape : Shape) (known : List Bool) (store : ObjectMap) (command : Command) → AreQuiet shape known → shape_in store ≡ shape
    → is_quiet shape known command ≡ true → AllByRecursion (λ c. is_quiet shape known c ≡ true) (follow_ups store command)
unfolding follow_ups
follow_quiet shape known store command quiet same is =
    subst (λ (s : Shape). AllByRecursion (λ c. is_quiet shape known c ≡ true) (joined_all s (raised store command))) (sym (shapes_stay store command ∙ same))
    (all_joined_quiet shape known quiet (raised store command) (raised_quiet shape known store command is))

quiet_run : (shape : Shape) (known : List Bool) → AreQuiet shape known → (left : ℕ) (store : ObjectMap) (pending : List Command) → shape_in store ≡ shape
    → AllByRecursion (λ c. is_quiet shape known c ≡ true) pending → HaveSameLook store (store_of (run left store pending))
quiet_run shape known quiet left store [] same all = same_look store _ (sym (ap store_of (run_none left store)))
quiet_run shape known quiet zero store (command ∷ pending) same all = run_spent store command pending
quiet_run shape known quiet (suc left) store (command ∷ pending) same all =
    let more = follow_ups store command ++ pending in
    let later : HaveSameLook (after store command) (store_of (run left (after store command) more)) =
    quiet_run shape known quiet left (after store command) more (shapes_stay store command ∙ same)
    (all_append (λ c. is_quiet shape known c ≡ true) (follow_ups store command) pending (follow_quiet shape known store command quiet same all.0) all.1) in
    let unseen : is_unseen_in (shape_in store) command ≡ true =
    subst (λ (s : Shape). is_unseen_in s command ≡ true) (sym same) (first (is_unseen_in shape command) (are_quiet shape known (row_events command)) all.0) in
    subst (λ (e : End). HaveSameLook store (store_of e)) (sym (run_step left store command pending))
    (or_next (fault (shape_in store) command) store (run left (after store command) more) (λ id. later id ∙ unseen_keeps store command unseen id))

pub quiet_runs_keep_looks : QuietRunsKeepLooks
quiet_runs_keep_looks store known raised quiet are left =
    quiet_run (shape_in store) known quiet left store (joined_all (shape_in store) raised) refl (all_joined_quiet (shape_in store) known quiet raised are)

-- an event that triggers quiet macros alone
pub listing_keeps : (store : ObjectMap) (known : List Bool) (event : Listing) → AreQuiet (shape_in store) known → is_quiet_at (shape_in store) known event ≡ true
    → (left : ℕ) → HaveSameLook store (store_of (run left store (event_commands (shape_in store) event)))
listing_keeps store known event quiet is left =
    quiet_run (shape_in store) known quiet left store (event_commands (shape_in store) event) refl (joined_quiet (shape_in store) known quiet event is)

-- a command that keeps the look of its object, and whose events trigger quiet macros alone
pub command_keeps : (store : ObjectMap) (known : List Bool) (command : Command) (raised : List Raised) → AreQuiet (shape_in store) known
    → keeps_look store command ≡ true → raised ≡ events_of store command → are_quiet (shape_in store) known raised ≡ true → KeepsLook store command
command_keeps store known command raised quiet keeps is are middle done id =
    let leads : after store command ≡ middle = ap (left store) done in
    let same : shape_in middle ≡ shape_in store = ap shape_in (sym leads) ∙ shapes_stay store command in
    let events : are_quiet (shape_in middle) known (events_of store command) ≡ true =
    subst (λ (s : Shape). are_quiet s known (events_of store command) ≡ true) (sym same)
    (subst (λ (r : List Raised). are_quiet (shape_in store) known r ≡ true) is are) in
    quiet_runs_keep_looks middle known (events_of store command) (subst (λ (s : Shape). AreQuiet s known) (sym same) quiet) events
    (total_budget (shape_in middle) (events_of store command)) id
    ∙ subst (λ (m : ObjectMap). option_map look (finite.get m id) ≡ option_map look (finite.get store id)) leads (looks_are_kept store command keeps id)

-- ---- the quiet macros of an index

-- no macro is known to be quiet
pub none_quiet : (shape : Shape) (known : List Bool) → ((id : ℕ) → slice_index_or known id false ≡ false) → AreQuiet shape known
none_quiet shape known none id is = absurd (no (slice_index_or known id false) is (none id))
  where
    no : (b : Bool) → b ≡ true → b ≡ false → ⊥
    no b is never = cc

-- a quiet command stays quiet with more quiet macros
module _ (shape : Shape) (old new : List Bool) (more : (id : ℕ) → slice_index_or old id false ≡ true → slice_index_or new id false ≡ true) where
  all_more : {A : Type 0} (test next : A → Bool) (xs : List A) → ((x : A) → test x ≡ true → next x ≡ true) → list_all test xs ≡ true → list_all next xs ≡ true
  all_more test next [] of all = refl
  all_more test next (x ∷ xs) of all =
      both (next x) (list_all next xs) (of x (first (test x) (list_all test xs) all)) (all_more test next xs of (second (test x) (list_all test xs) all))

  event_more : (event : Listing) → is_quiet_at shape old event ≡ true → is_quiet_at shape new event ≡ true
  event_more event is = all_more (λ id. slice_index_or old id false) (λ id. slice_index_or new id false) (listed shape event) more is

  quiet_more : (command : Command) → is_quiet shape old command ≡ true → is_quiet shape new command ≡ true
  quiet_more command is =
      both (is_unseen_in shape command) (are_quiet shape new (row_events command))
      (first (is_unseen_in shape command) (are_quiet shape old (row_events command)) is)
      (all_more (λ r. is_quiet_at shape old (listing_of r)) (λ r. is_quiet_at shape new (listing_of r)) (row_events command) (λ r. event_more (listing_of r))
      (second (is_unseen_in shape command) (are_quiet shape old (row_events command)) is))

  all_quiet_more : (cs : List Command) → AllByRecursion (λ c. is_quiet shape old c ≡ true) cs → AllByRecursion (λ c. is_quiet shape new c ≡ true) cs
  all_quiet_more cs all = all_map (λ c. is_quiet shape old c ≡ true) (λ c. is_quiet shape new c ≡ true) cs quiet_more all

set_cases : (known : List Bool) (at id : ℕ) → slice_index_or (set known at true) id false ≡ true → (slice_index_or known id false ≡ true) ⊎ (id ≡ at)
set_cases [] at id is = inl is
set_cases (m ∷ known) zero zero is = inr refl
set_cases (m ∷ known) zero (suc id) is = inl is
set_cases (m ∷ known) (suc at) zero is = inl is
set_cases (m ∷ known) (suc at) (suc id) is = by (set_cases known at id is)
  where
    by : (slice_index_or known id false ≡ true) ⊎ (id ≡ at) → (slice_index_or known id false ≡ true) ⊎ (suc id ≡ suc at)
    by (inl old) = inl old
    by (inr same) = inr (ap suc same)

set_more : (known : List Bool) (at id : ℕ) → slice_index_or known id false ≡ true → slice_index_or (set known at true) id false ≡ true
set_more [] at id is = is
set_more (m ∷ known) zero zero is = refl
set_more (m ∷ known) zero (suc id) is = is
set_more (m ∷ known) (suc at) zero is = is
set_more (m ∷ known) (suc at) (suc id) is = set_more known at id is

pub set_past : (known : List Bool) (at : ℕ) → length known ≤ at → set known at true ≡ known
set_past [] at le = refl
set_past (m ∷ known) zero le = absurd (omega (arith, le))
set_past (m ∷ known) (suc at) le = ap (λ (rest : List Bool). m ∷ rest) (set_past known at (omega (arith, le)))

pub added_quiet : (shape : Shape) (known : List Bool) (at : ℕ) → AreQuiet shape known → AllByRecursion (λ c. is_quiet shape known c ≡ true) (commands shape at)
    → AreQuiet shape (set known at true)
added_quiet shape known at quiet all id is =
    all_quiet_more shape known (set known at true) (set_more known at) (commands shape id) (by (set_cases known at id is))
  where
    by : (slice_index_or known id false ≡ true) ⊎ (id ≡ at) → AllByRecursion (λ c. is_quiet shape known c ≡ true) (commands shape id)
    by (inl old) = quiet id old
    by (inr same) = subst (λ (i : ℕ). AllByRecursion (λ c. is_quiet shape known c ≡ true) (commands shape i)) (sym same) all

-- the commands at the pieces of a macro are quiet
pub pieces_quiet : (shape : Shape) (known : List Bool) (found : Span → Option Command) (pieces : List Span) (cs : List Command) → map found pieces ≡ map Some cs
    → list_all (λ piece. is_quiet_in shape known (found piece)) pieces ≡ true → AllByRecursion (λ c. is_quiet shape known c ≡ true) cs
pieces_quiet shape known found [] [] are all = tt
pieces_quiet shape known found [] (c ∷ cs) are all = absurd cc
pieces_quiet shape known found (piece ∷ pieces) [] are all = absurd cc
pieces_quiet shape known found (piece ∷ pieces) (c ∷ cs) are all =
    let head : found piece ≡ Some c = cc in
    let tail : map found pieces ≡ map Some cs = cc in
    let split = all in (
      subst (λ (command : Option Command). is_quiet_in shape known command ≡ true) head
          (first (is_quiet_in shape known (found piece)) (list_all (λ p. is_quiet_in shape known (found p)) pieces) split),
      pieces_quiet shape known found pieces cs tail
          (second (is_quiet_in shape known (found piece)) (list_all (λ p. is_quiet_in shape known (found p)) pieces) split),
    )

-- the quiet macros of an index at the events of the objects
pub known_quiet_at : (shape : Shape) (index : Index) (event : Listing) → IsIndexOf shape index → is_quiet_event index event ≡ is_quiet_at shape index.quiet.items event
known_quiet_at shape index event indexed = ap (list_all (λ id. slice_index_or index.quiet.items id false)) (indexed.listings_are event)

pub all_known_quiet : (shape : Shape) (index : Index) (raised : List Raised) → IsIndexOf shape index → are_quiet_events index raised ≡ are_quiet shape index.quiet.items raised
all_known_quiet shape index [] indexed = refl
all_known_quiet shape index (r ∷ raised) indexed =
    ap₂ (λ (a b : Bool). a && b) (known_quiet_at shape index (listing_of r) indexed) (all_known_quiet shape index raised indexed)

-- an index with other listings, and without quiet macros
pub with_listings_is : (shape : Shape) (old new : Index) (listings : Groups) → new ≡ record old { listings = listings; quiet = new.quiet }
    → ((id : ℕ) → slice_index_or new.quiet.items id false ≡ false) → AreListings shape listings
    → ((id : ℕ) → map (command_in old) (pieces_in old id) ≡ map Some (commands shape id)) → IsIndexOf shape new
with_listings_is shape old new listings is none listed commands =
    let quiet = new.quiet in
    let made : IsIndexOf shape (record old { listings = listings; quiet = quiet }) =
    record { listings_are = listed; commands_are = commands; quiet_are = none_quiet shape quiet.items none } in
    subst (IsIndexOf shape) (sym is) made

-- an index with one more quiet macro
pub added_is : (shape : Shape) (old new : Index) (id : ℕ) → IsIndexOf shape old → new ≡ record old { quiet = new.quiet } → new.quiet.items ≡ set old.quiet.items id true
    → list_all (λ piece. is_quiet_in shape old.quiet.items (command_in old piece)) (pieces_in old id) ≡ true → IsIndexOf shape new
added_is shape old new id indexed is known all =
    let quiet = new.quiet in
    let are : AreQuiet shape quiet.items =
    subst (AreQuiet shape) (sym known)
    (added_quiet shape old.quiet.items id indexed.quiet_are (pieces_quiet shape old.quiet.items (command_in old) (pieces_in old id) (commands shape id) (indexed.commands_are id) all)) in
    let made : IsIndexOf shape (record old { quiet = quiet }) =
    record { listings_are = indexed.listings_are; commands_are = indexed.commands_are; quiet_are = are } in
    subst (IsIndexOf shape) (sym is) made
