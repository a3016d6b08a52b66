-- The events at which objects list macros, and their groups.
use Rattle.std.proofs.Common.{◌≡◌, ◌≢◌, ℕ, zero, suc, ◌+◌, ◌-◌, ◌<◌, ◌≤◌, Bool, true, false, cond, ◌&&◌, ◌||◌, List, [], ◌∷◌, ◌++◌, map, filter, take, drop, length, get_or, Option, Some, None, refl, sym, ap, ap₂, subst, ◌∙◌, arith}
use Rattle.std.proofs.Math.Seq.{drop-cons}
use Rattle.std.proofs.lemmas.List.{append_assoc, append-nil, map-append, take_more}
use Rattle.std.proofs.lemmas.List.Folds.{list_any-append}
use Rattle.std.proofs.lemmas.Grind.{flat_map-append}
use Rattle.std.proofs.lemmas.Bool.{ne_eqb}
use Rattle.std.proofs.lemmas.Iterator.Adapters.{position_from-zero}
use Rattle.std.specs.Prelude.{is_some, IsTrue, nat_eq}
use Rattle.std.specs.Option.{option_to_list}
use Rattle.std.specs.List.{flat_map, position, list_all, AllByRecursion}
use Rattle.std.specs.declared.cmp.Ordering.{Ordering}
use Rattle.std.specs.declared.cmp.Ordering.TheVariants.{Less, Equal, Greater}
use Rattle.std.specs.Ordering.{nat_cmp, is_eq, is_lt, eq_by_cmp}
use Rattle.std.specs.FinMap as finite
use Rattle.std.specs.FinMap.Entries.{below_all}
use Rattle.vt_kinds.specs.declared.entries.MacroEntry.{MacroEntry}
use Rattle.vt_kinds.specs.declared.object.Object.{Object}
use Rattle.vt_commands.specs.Pieces.{cut}
use Rattle.vt_kinds.specs.Records.{Seen, seen, kind_of}
use Rattle.vt_kinds.specs.declared.kind.Kind.{Kind}
use Rattle.vt_stores.specs.Stores.{seen_entry, Objects, IsRising}
use Rattle.vt_rank.specs.declared.graph.Item.{Item}
use Rattle.vt_rank.specs.declared.graph.Item.TheVariants as items
use Rattle.vt_verify.specs.declared.listing.Listing.{Listing}
use Rattle.vt_verify.specs.Lists.{first_failing}
use Rattle.vt_stores.specs.Shapes.{Shape, Fixed, fixed, shape_of, fixed_at}
use Rattle.vt_commands.specs.declared.command.Command.{Command}
use Rattle.vt_commands.specs.declared.command.Command.TheVariants.{DeletePool}
use Rattle.vt_commands.specs.Commands.{command_at}
use Rattle.vt_verify.specs.Macros.{Piece, macro_bytes_in, named_macro, macros, is_whole, pieces, pieces_of, with_offsets, cut_or_none, is_allowed, but_delete_pool, macro_command, commands_of, commands}
use Rattle.vt_verify.specs.Triggers.{listing, is_mask, masks, is_event, macros_at, listed, listed_in}
use Rattle.vt_verify.proofs.lemmas.rules.FirstFailure.{all_pass, each_of_each}
use Rattle.vt_stores.proofs.ObjectShapes.{seen_kind}
use Rattle.vt_stores.proofs.SortedEntries.{three, equal, greater, both_true}
use Rattle.vt_verify.specs.TriggerGraphs.{is_event_of, has, events_in, groups_in, non_empty, if_any, if_listed, event_numbers, listed_events, group_of_event, groups_of}
use Rattle.vt_stores.proofs.BinarySearch.{is_below}

is_equal : (o : Ordering) → is_eq o ≡ true → o ≡ Equal
is_equal Less is = absurd cc
is_equal Equal is = refl
is_equal Greater is = absurd cc

pub tied_same : (a b : ℕ) → eq_by_cmp nat_cmp a b ≡ true → a ≡ b
tied_same a b is = finite.nat_cmp-IsAntisymmetric a b (is_equal (nat_cmp a b) is)

pub next_is : {X : Type 0} (xs : List X) (i : ℕ) (x : X) → i < length xs → x ≡ get_or xs i x → drop i xs ≡ x ∷ drop (i + 1) xs
next_is xs i x lt is =
    let one : suc i ≡ i + 1 = omega arith in
    drop-cons xs i x lt ∙ ap (λ x. x ∷ drop (suc i) xs) (sym is) ∙ ap (λ k. x ∷ drop k xs) one

-- ---- the group of an event

pub group_is : (events : List Listing) (raised : Listing) → position (is_event_of raised) events ≡ group_of_event events raised
group_is events raised = position_from-zero (is_event_of raised) events

-- ---- the list made so far and the remaining list

-- the next elements move from the remaining list to the list made so far
pub moved : {A : Type 0} (made next left all : List A) → made ++ (next ++ left) ≡ all → (made ++ next) ++ left ≡ all
moved made next left all is = append_assoc made next left ∙ is

pub next_group : (events : List Listing) (made : List Item) (raised : Listing) (left : List Listing) (all : List Item)
    → made ++ map items.Group (groups_of events (raised ∷ left)) ≡ all
    → (made ++ map items.Group (option_to_list (group_of_event events raised))) ++ map items.Group (groups_of events left) ≡ all
next_group events made raised left all is =
    moved made (map items.Group (option_to_list (group_of_event events raised))) (map items.Group (groups_of events left)) all
    (ap (λ (gs : List Item). made ++ gs) (sym (map-append items.Group (option_to_list (group_of_event events raised)) (groups_of events left))) ∙ is)

-- ---- the groups of the Hide events of masks

hidden_case : (events : List Listing) (b : Bool) (e : ℕ × Fixed) (rest : Shape)
    → groups_of events (map (λ mask. listing mask 4) (map (λ e. e.0) (cond b (e ∷ rest) rest)))
    ≡ cond b (option_to_list (group_of_event events (listing e.0 4))) [] ++ groups_of events (map (λ mask. listing mask 4) (map (λ e. e.0) rest))
hidden_case events true e rest = refl
hidden_case events false e rest = refl

module _ {B : Type 0} (events : List Listing) where
  hidden_of : List (ℕ × Object B) → List ℕ
  hidden_of es = groups_of events (map (λ mask. listing mask 4) (masks (shape_of (map seen_entry es))))

  first_hidden : (e : ℕ × Object B) (es : List (ℕ × Object B))
      → hidden_of (e ∷ es) ≡ cond (is_mask (kind_of e.1)) (option_to_list (group_of_event events (listing e.0 4))) [] ++ hidden_of es
  unfolding hidden_of
  first_hidden e es =
      hidden_case events (is_mask (kind_of (seen e.1))) (e.0, fixed (seen e.1)) (filter (λ e. is_mask e.1.kind) (shape_of (map seen_entry es)))
      ∙ ap (λ (kind : Kind). cond (is_mask kind) (option_to_list (group_of_event events (listing e.0 4))) [] ++ hidden_of es) (seen_kind e.1)

  pub next_hidden : (made : List ℕ) (es : List (ℕ × Object B)) (i : ℕ) (e : ℕ × Object B) (all : List ℕ) → i < length es → e ≡ get_or es i e
      → made ++ groups_of events (map (λ mask. listing mask 4) (masks (shape_of (map seen_entry (drop i es))))) ≡ all
      → (made ++ cond (is_mask (kind_of e.1)) (option_to_list (group_of_event events (listing e.0 4))) [])
      ++ groups_of events (map (λ mask. listing mask 4) (masks (shape_of (map seen_entry (drop (i + 1) es))))) ≡ all
  unfolding hidden_of
  next_hidden made es i e all lt is left =
      moved made (cond (is_mask (kind_of e.1)) (option_to_list (group_of_event events (listing e.0 4))) []) (hidden_of (drop (i + 1) es)) all
      (ap (λ (gs : List ℕ). made ++ gs)
      (sym (ap hidden_of (next_is es i e lt is) ∙ first_hidden e (drop (i + 1) es)))
      ∙ left)

-- ---- each macro is whole, if all are

module _ {R : Type 0} (test : R → Bool) (made : ℕ × Fixed → List R) where
  passing_case : (id : ℕ) (e : ℕ × Fixed) (b : Bool) (rest : Option Fixed) → (b ≡ true → id ≡ e.0) → first_failing test (made e) ≡ None
      → first_failing test (flat_map (λ f. made (id, f)) (option_to_list rest)) ≡ None
      → first_failing test (flat_map (λ f. made (id, f)) (option_to_list (cond b (Some e.1) rest))) ≡ None
  passing_case id e true rest alike pass later =
      ap (first_failing test) (append-nil (made (id, e.1))) ∙ ap (λ (id : ℕ). first_failing test (made (id, e.1))) (alike refl) ∙ pass
  passing_case id e false rest alike pass later = later

  -- the list of one object passes, if the lists of all objects pass
  passing_under : (shape : Shape) (id : ℕ) → first_failing test (flat_map made shape) ≡ None
      → first_failing test (flat_map (λ f. made (id, f)) (option_to_list (fixed_at shape id))) ≡ None
  passing_under [] id all = refl
  passing_under (e ∷ shape) id all =
      let parts = all_pass test (made e) (flat_map made shape) all in
      passing_case id e (eq_by_cmp nat_cmp id e.0) (fixed_at shape id) (tied_same id e.0) parts.0 (passing_under shape id parts.1)

named_bytes : (id : ℕ) (found : Option Fixed)
    → flat_map (λ f. named_macro (id, f)) (option_to_list found)
    ≡ map (λ bytes. (id, bytes)) (flat_map (λ f. option_to_list (macro_bytes_in id f)) (option_to_list found))
named_bytes id None = refl
named_bytes id (Some f) =
    append-nil (named_macro (id, f)) ∙ ap (map (λ bytes. (id, bytes))) (sym (append-nil (option_to_list (macro_bytes_in id f))))

passed : (b : Bool) (m : ℕ × List ℕ) → cond b None (Some m) ≡ None → IsTrue b
passed true m is = refl
passed false m is = absurd cc

pub whole_bytes : (shape : Shape) (id : ℕ) (found : Option (List ℕ)) (bytes : List ℕ) → first_failing is_whole (macros shape) ≡ None
    → option_to_list found ≡ flat_map (λ f. option_to_list (macro_bytes_in id f)) (option_to_list (fixed_at shape id)) → found ≡ Some bytes → IsTrue (is_some (cut bytes))
whole_bytes shape id found bytes all is some =
    passed (is_some (cut bytes)) (id, bytes)
    (ap (λ (found : Option (List ℕ)). first_failing is_whole (map (λ bytes. (id, bytes)) (option_to_list found))) (sym some)
    ∙ ap (λ (bs : List (List ℕ)). first_failing is_whole (map (λ bytes. (id, bytes)) bs)) is
    ∙ ap (first_failing is_whole) (sym (named_bytes id (fixed_at shape id)))
    ∙ passing_under is_whole named_macro shape id all)

-- ---- each macro command of a whole macro is a command

pieces_under : (shape : Shape) (id : ℕ) (found : Option (List ℕ))
    → option_to_list found ≡ flat_map (λ f. option_to_list (macro_bytes_in id f)) (option_to_list (fixed_at shape id))
    → flat_map (λ f. flat_map pieces_of (named_macro (id, f))) (option_to_list (fixed_at shape id)) ≡ flat_map pieces_of (map (λ bytes. (id, bytes)) (option_to_list found))
pieces_under shape id found is =
    sym (each_of_each pieces_of (λ (f : Fixed). named_macro (id, f)) (option_to_list (fixed_at shape id)))
    ∙ ap (flat_map pieces_of) (named_bytes id (fixed_at shape id) ∙ ap (map (λ bytes. (id, bytes))) (sym is))

pub allowed_pieces : (shape : Shape) (id : ℕ) (found : Option (List ℕ)) (bytes : List ℕ) → first_failing is_allowed (pieces shape) ≡ None
    → option_to_list found ≡ flat_map (λ f. option_to_list (macro_bytes_in id f)) (option_to_list (fixed_at shape id)) → found ≡ Some bytes
    → first_failing is_allowed (with_offsets id 0 (cut_or_none bytes)) ≡ None
allowed_pieces shape id found bytes all is some =
    ap (first_failing is_allowed) (sym (append-nil (with_offsets id 0 (cut_or_none bytes))))
    ∙ ap (λ (found : Option (List ℕ)). first_failing is_allowed (flat_map pieces_of (map (λ bytes. (id, bytes)) (option_to_list found)))) (sym some)
    ∙ ap (first_failing is_allowed) (sym (pieces_under shape id found is))
    ∙ passing_under is_allowed (λ e. flat_map pieces_of (named_macro e)) shape id
    (ap (first_failing is_allowed) (sym (each_of_each pieces_of named_macro shape)) ∙ all)

allowed_case : (b : Bool) (rest : Option Piece) (p : Piece) → cond b rest (Some p) ≡ None → (b ≡ true) × (rest ≡ None)
allowed_case true rest p is = (refl, is)
allowed_case false rest p is = absurd cc

command_case : (c : Option Command) (later : List (Option Command)) (cs : List Command) → is_some (but_delete_pool c) ≡ true → later ≡ map Some cs
    → c ∷ later ≡ map Some (option_to_list (but_delete_pool c) ++ cs)
command_case None later cs is rest = absurd cc
command_case (Some DeletePool) later cs is rest = absurd cc
command_case (Some c) later cs is rest = ap (λ (l : List (Option Command)). Some c ∷ l) rest

-- if all macro commands are allowed, their bytes read as the commands
pub pieces_read : (id at : ℕ) (ps : List (List ℕ)) → first_failing is_allowed (with_offsets id at ps) ≡ None
    → map command_at ps ≡ map Some (flat_map (λ piece. option_to_list (macro_command piece)) ps)
pieces_read id at [] all = refl
pieces_read id at (p ∷ ps) all =
    let parts = allowed_case (is_some (macro_command p)) (first_failing is_allowed (with_offsets id (at + length p) ps)) (record { id = id; at = at; bytes = p }) all in
    command_case (command_at p) (map command_at ps) (flat_map (λ piece. option_to_list (macro_command piece)) ps) parts.0 (pieces_read id (at + length p) ps parts.1)

-- the bytes of a macro have its commands
pub commands_found : (shape : Shape) (id : ℕ) (found : Option (List ℕ))
    → option_to_list found ≡ flat_map (λ f. option_to_list (macro_bytes_in id f)) (option_to_list (fixed_at shape id)) → flat_map commands_of (option_to_list found) ≡ commands shape id
unfolding commands
commands_found shape id found is =
    ap (flat_map commands_of) is ∙ each_of_each commands_of (λ (f : Fixed). option_to_list (macro_bytes_in id f)) (option_to_list (fixed_at shape id))

-- ---- the numbers of events, in order

unfoldable pub from : ℕ → ℕ → List ℕ
from zero start = []
from (suc count) start = start ∷ from count (suc start)

from_at : (count start k d : ℕ) → k < count → get_or (from count start) k d ≡ start + k
unfolding from
from_at zero start k d lt = absurd (omega arith)
from_at (suc count) start zero d lt = omega arith
from_at (suc count) start (suc k) d lt =
    let later = from_at count (suc start) k d (omega arith) in
    later ∙ omega arith

pub numbers_are : event_numbers ≡ from 27 0
unfolding from
numbers_are = refl

pub next_event : (n : ℕ) → n < 27 → drop n event_numbers ≡ n ∷ drop (n + 1) event_numbers
next_event n high =
    let len : length event_numbers ≡ 27 = refl in
    let at : get_or event_numbers n n ≡ 0 + n = ap (λ (ns : List ℕ). get_or ns n n) numbers_are ∙ from_at 27 0 n n high in
    let back : 0 + n ≡ n = omega arith in
    next_is event_numbers n n (omega arith) (sym (at ∙ back))

-- ---- the events without listed macros

-- an entry of another event adds no macro
pub not_listed : (event : ℕ) (entries : List MacroEntry) (i : ℕ) (d : MacroEntry) → i < length entries → (get_or entries i d).event ≢ event
    → macros_at event (drop i entries) ≡ macros_at event (drop (i + 1) entries)
not_listed event entries i d lt other =
    let e = get_or entries i d in
    let one : suc i ≡ i + 1 = omega arith in
    let rest = filter (λ (e : MacroEntry). nat_eq e.event event) (drop (i + 1) entries) in
    ap (macros_at event) (drop-cons entries i d lt ∙ ap (λ k. e ∷ drop k entries) one)
    ∙ ap (λ (b : Bool). map (λ (e : MacroEntry). e.macro_id) (cond b (e ∷ rest) rest)) (ne_eqb e.event event other)

passed_by : {A : Type 0} (F : ℕ → List A) (count n m : ℕ) → n + count ≡ m → m ≤ 27 → ((event : ℕ) → n ≤ event → event < m → F event ≡ [])
    → flat_map F (drop n event_numbers) ≡ flat_map F (drop m event_numbers)
passed_by F zero n m is le none = let same : n ≡ m = omega (arith, is) in ap (λ k. flat_map F (drop k event_numbers)) same
passed_by {A = A} F (suc count) n m is le none =
    ap (flat_map F) (next_event n (omega (arith, is)))
    ∙ ap (λ (more : List A). more ++ flat_map F (drop (n + 1) event_numbers)) (none n (omega arith) (omega (arith, is)))
    ∙ passed_by F count (n + 1) m (omega (arith, is)) le (λ event low high. none event (omega arith) high)

-- events without listed macros add nothing
pub none_between : {A : Type 0} (F : ℕ → List A) (n m : ℕ) → n ≤ m → m ≤ 27 → ((event : ℕ) → n ≤ event → event < m → F event ≡ [])
    → flat_map F (drop n event_numbers) ≡ flat_map F (drop m event_numbers)
none_between F n m le high none = passed_by F (m - n) n m (omega arith) high none

never_both : (b c : Bool) → c ≡ false → (b && c) ≡ false
never_both true c is = is
never_both false c is = refl

neither : (a b : Bool) → a ≡ false → b ≡ false → (a || b) ≡ false
neither true b one other = absurd cc
neither false b one other = other

none_if_any : (q r : Listing) (ms : List ℕ) → is_event_of q r ≡ false → has (if_any r ms) q ≡ false
none_if_any q r [] is = refl
none_if_any q r (m ∷ ms) is = neither (is_event_of q r) false is refl

-- an event with a greater number is not in the list yet
pub still_new : (id n event : ℕ) (keys : List Listing) (ms : List ℕ) → n + 1 ≤ event → has keys (listing id event) ≡ false
    → has (keys ++ if_any (listing id n) ms) (listing id event) ≡ false
still_new id n event keys ms le none =
    list_any-append (is_event_of (listing id event)) keys (if_any (listing id n) ms)
    ∙ neither (has keys (listing id event)) (has (if_any (listing id n) ms) (listing id event)) none
    (none_if_any (listing id event) (listing id n) ms (never_both (nat_eq id id) (nat_eq event n) (ne_eqb event n (λ e. absurd (omega (arith, e))))))

-- ---- the events of objects with rising IDs

-- the events of one object
abbrev pub events_of : ℕ × Fixed → List Listing
events_of e = events_in e.0 e.1

abbrev pub groups_of_events : ℕ × Fixed → List (List ℕ)
groups_of_events e = groups_in e.0 e.1

other_events : (q : Listing) (id : ℕ) (f : Fixed) (ns : List ℕ) → nat_eq q.id id ≡ false
    → has (flat_map (λ event. if_any (listing id event) (listed_in event id f)) ns) q ≡ false
other_events q id f [] other = refl
other_events q id f (n ∷ ns) other =
    list_any-append (is_event_of q) (if_any (listing id n) (listed_in n id f)) (flat_map (λ event. if_any (listing id event) (listed_in event id f)) ns)
    ∙ neither (has (if_any (listing id n) (listed_in n id f)) q) (has (flat_map (λ event. if_any (listing id event) (listed_in event id f)) ns) q)
    (none_if_any q (listing id n) (listed_in n id f) (ap (λ b. b && nat_eq q.event n) other)) (other_events q id f ns other)

others : (q : Listing) (shape : Shape) → AllByRecursion (λ e. nat_eq q.id e.0 ≡ false) shape → has (flat_map events_of shape) q ≡ false
unfolding events_in
others q [] all = refl
others q (e ∷ shape) all =
    list_any-append (is_event_of q) (events_of e) (flat_map events_of shape)
    ∙ neither (has (events_of e) q) (has (flat_map events_of shape) q) (other_events q e.0 e.1 event_numbers all.0) (others q shape all.1)

module _ {B : Type 0} where
  below_at : (a : ℕ) (es : List (ℕ × Object B)) (i : ℕ) (e : ℕ × Object B) → i < length es → e ≡ get_or es i e → IsTrue (below_all nat_cmp a (map seen_entry es)) → a < e.0
  below_at a [] i e lt is all = absurd (omega arith)
  below_at a (x ∷ es) zero e lt is all =
      let parts = both_true (is_lt (nat_cmp a x.0)) (below_all nat_cmp a (map seen_entry es)) all in
      subst (λ (e : ℕ × Object B). a < e.0) (sym is) (is_below a x.0 (three a x.0) parts.0)
  below_at a (x ∷ es) (suc i) e lt is all =
      let parts = both_true (is_lt (nat_cmp a x.0)) (below_all nat_cmp a (map seen_entry es)) all in
      below_at a es i e (omega arith) is parts.1

  apart : (es : List (ℕ × Object B)) (i : ℕ) (e : ℕ × Object B) → i < length es → e ≡ get_or es i e → IsRising (map seen_entry es)
      → AllByRecursion (λ x. nat_eq e.0 x.0 ≡ false) (shape_of (map seen_entry (take i es)))
  apart [] i e lt is rising = absurd (omega arith)
  apart (x ∷ es) zero e lt is rising = tt
  apart (x ∷ es) (suc i) e lt is rising =
      let parts = both_true (below_all nat_cmp x.0 (map seen_entry es)) (finite.is_sorted nat_cmp (map seen_entry es)) rising in
      let less = below_at x.0 es i e (omega arith) is parts.0 in
      (ne_eqb e.0 x.0 (λ alike. absurd (omega (arith, alike))), apart es i e (omega arith) is parts.1)

  pub not_yet : (es : List (ℕ × Object B)) (i : ℕ) (e : ℕ × Object B) (event : ℕ) → i < length es → e ≡ get_or es i e → IsRising (map seen_entry es)
      → has (flat_map events_of (shape_of (map seen_entry (take i es)))) (listing e.0 event) ≡ false
  not_yet es i e event lt is rising = others (listing e.0 event) (shape_of (map seen_entry (take i es))) (apart es i e lt is rising)

  -- the list of one more object comes last
  pub one_more : {A : Type 0} (F : ℕ × Fixed → List A) (es : List (ℕ × Object B)) (i : ℕ) (e : ℕ × Object B) → i < length es → e ≡ get_or es i e
      → flat_map F (shape_of (map seen_entry (take (i + 1) es))) ≡ flat_map F (shape_of (map seen_entry (take i es))) ++ F (e.0, fixed (seen e.1))
  one_more F es i e lt is =
      ap (λ (xs : List (ℕ × Object B)). flat_map F (shape_of (map seen_entry xs))) (take_more es i e lt ∙ ap (λ (x : ℕ × Object B). take i es ++ x ∷ []) (sym is))
      ∙ ap (λ (objects : Objects). flat_map F (shape_of objects)) (map-append seen_entry (take i es) (e ∷ []))
      ∙ ap (flat_map F) (map-append (λ (e : ℕ × Seen). (e.0, fixed e.1)) (map seen_entry (take i es)) (seen_entry e ∷ []))
      ∙ flat_map-append F (shape_of (map seen_entry (take i es))) ((e.0, fixed (seen e.1)) ∷ [])
      ∙ ap (λ more. flat_map F (shape_of (map seen_entry (take i es))) ++ more) (append-nil (F (e.0, fixed (seen e.1))))

-- ---- the events found are those at which macros are listed

IsFound : Shape → ℕ × Fixed → Type 0
IsFound shape e = fixed_at shape e.0 ≡ Some e.1

found_later : (e : ℕ × Fixed) (es xs : Shape) → IsTrue (below_all nat_cmp e.0 xs) → AllByRecursion (IsFound es) xs → AllByRecursion (IsFound (e ∷ es)) xs
unfolding IsFound
found_later e es [] higher all = tt
found_later e es (x ∷ xs) higher all =
    let parts = both_true (is_lt (nat_cmp e.0 x.0)) (below_all nat_cmp e.0 xs) higher in
    let lt = is_below e.0 x.0 (three e.0 x.0) parts.0 in (
      ap (λ (o : Ordering). cond (is_eq o) (Some e.1) (fixed_at es x.0)) (greater x.0 e.0 lt) ∙ all.0,
      found_later e es xs parts.1 all.1,
    )

all_found : (shape : Shape) → IsTrue (finite.is_sorted nat_cmp shape) → AllByRecursion (IsFound shape) shape
unfolding IsFound
all_found [] rising = tt
all_found (e ∷ shape) rising =
    let parts = both_true (below_all nat_cmp e.0 shape) (finite.is_sorted nat_cmp shape) rising in (
      ap (λ (o : Ordering). cond (is_eq o) (Some e.1) (fixed_at shape e.0)) (equal e.0),
      found_later e shape shape parts.0 (all_found shape parts.1),
    )

-- the macros listed at an event of an existing object
pub listed_here : (shape : Shape) (id : ℕ) (f : Fixed) (event : ℕ) → fixed_at shape id ≡ Some f → IsTrue (is_event event)
    → listed shape (listing id event) ≡ listed_in event id f
unfolding listed
listed_here shape id f event found is =
    ap (λ (b : Bool). cond b (flat_map (listed_in event id) (option_to_list (fixed_at shape id))) []) is
    ∙ ap (λ (o : Option Fixed). flat_map (listed_in event id) (option_to_list o)) found
    ∙ append-nil (listed_in event id f)

same_events : (shape : Shape) (id : ℕ) (f : Fixed) (ns : List ℕ) → fixed_at shape id ≡ Some f → IsTrue (list_all is_event ns)
    → flat_map (λ event. if_any (listing id event) (listed_in event id f)) ns ≡ flat_map (λ event. if_listed shape (listing id event)) ns
same_events shape id f [] found all = refl
same_events shape id f (n ∷ ns) found all =
    let parts = both_true (is_event n) (list_all is_event ns) all in
    ap₂ (λ (one more : List Listing). one ++ more) (ap (if_any (listing id n)) (sym (listed_here shape id f n found parts.0))) (same_events shape id f ns found parts.1)

all_events : (shape es : Shape) → AllByRecursion (IsFound shape) es
    → flat_map events_of es ≡ flat_map (λ e. flat_map (λ event. if_listed shape (listing e.0 event)) event_numbers) es
unfolding IsFound events_in
all_events shape [] all = refl
all_events shape (e ∷ es) all =
    ap₂ (λ (one more : List Listing). one ++ more) (same_events shape e.0 e.1 event_numbers all.0 refl) (all_events shape es all.1)

group_case : (shape : Shape) (r : Listing) (ms : List ℕ) → listed shape r ≡ ms → map (listed shape) (if_any r ms) ≡ non_empty ms
group_case shape r [] is = refl
group_case shape r (m ∷ ms) is = ap (λ (l : List ℕ). l ∷ []) is

same_groups : (shape : Shape) (id : ℕ) (ns : List ℕ) (f : Fixed) → fixed_at shape id ≡ Some f → IsTrue (list_all is_event ns)
    → flat_map (λ event. non_empty (listed_in event id f)) ns ≡ map (listed shape) (flat_map (λ event. if_any (listing id event) (listed_in event id f)) ns)
same_groups shape id [] f found all = refl
same_groups shape id (n ∷ ns) f found all =
    let parts = both_true (is_event n) (list_all is_event ns) all in
    let rest = flat_map (λ event. if_any (listing id event) (listed_in event id f)) ns in
    ap₂ (λ (one more : List (List ℕ)). one ++ more)
    (sym (group_case shape (listing id n) (listed_in n id f) (listed_here shape id f n found parts.0))) (same_groups shape id ns f found parts.1)
    ∙ sym (map-append (listed shape) (if_any (listing id n) (listed_in n id f)) rest)

all_groups : (shape es : Shape) → AllByRecursion (IsFound shape) es → flat_map groups_of_events es ≡ map (listed shape) (flat_map events_of es)
unfolding IsFound events_in groups_in
all_groups shape [] all = refl
all_groups shape (e ∷ es) all =
    ap₂ (λ (one more : List (List ℕ)). one ++ more) (same_groups shape e.0 event_numbers e.1 all.0 refl) (all_groups shape es all.1)
    ∙ sym (map-append (listed shape) (events_of e) (flat_map events_of es))

below_fixed : (a : ℕ) (objects : Objects) → below_all nat_cmp a (shape_of objects) ≡ below_all nat_cmp a objects
below_fixed a [] = refl
below_fixed a (e ∷ objects) = ap (λ (b : Bool). is_lt (nat_cmp a e.0) && b) (below_fixed a objects)

-- the shape of objects is sorted exactly if the objects are
pub shape_rises : (objects : Objects) → finite.is_sorted nat_cmp (shape_of objects) ≡ finite.is_sorted nat_cmp objects
shape_rises [] = refl
shape_rises (e ∷ objects) = ap₂ (λ (a b : Bool). a && b) (below_fixed e.0 objects) (shape_rises objects)

pub rising_shape : (objects : Objects) → IsRising objects → IsTrue (finite.is_sorted nat_cmp (shape_of objects))
rising_shape objects rising = shape_rises objects ∙ rising

pub events_listed : (objects : Objects) → IsRising objects → flat_map events_of (shape_of objects) ≡ listed_events (shape_of objects)
events_listed objects rising = all_events (shape_of objects) (shape_of objects) (all_found (shape_of objects) (shape_rises objects ∙ rising))

pub groups_listed : (objects : Objects) → IsRising objects
    → flat_map groups_of_events (shape_of objects) ≡ map (listed (shape_of objects)) (listed_events (shape_of objects))
groups_listed objects rising =
    all_groups (shape_of objects) (shape_of objects) (all_found (shape_of objects) (shape_rises objects ∙ rising))
    ∙ ap (map (listed (shape_of objects))) (events_listed objects rising)
