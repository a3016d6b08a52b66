-- A macro triggers the same macros in the graph of the triggers and in the pool.
use Rattle.std.proofs.Common.{◌≡◌, ℕ, zero, suc, ◌+◌, ◌<◌, ◌≤◌, Bool, true, false, cond, ◌&&◌, ◌||◌, List, [], ◌∷◌, ◌++◌, map, take, Option, Some, None, refl, sym, ap, ap₂, subst, ◌∙◌, arith, inl, inr}
use Rattle.std.proofs.lemmas.List.{append-nil, length-take, get_or_past}
use Rattle.std.proofs.lemmas.List.Folds.{list_any-append}
use Rattle.std.proofs.lemmas.Grind.{flat_map-append}
use Rattle.std.proofs.lemmas.Bool.{eqb-true, eq-eqb, leb-true, cases_lt}
use Rattle.std.specs.Prelude.{IsTrue, nat_eq, nat_le, slice_index, slice_index_or}
use Rattle.std.specs.Option.{option_to_list}
use Rattle.std.specs.List.{flat_map, list_any, position_from}
use Rattle.std.specs.Ordering.{nat_cmp, eq_by_cmp}
use Rattle.vt_commands.specs.declared.command.Command.{Command}
use Rattle.vt_rank.specs.declared.graph.Graph.{Graph}
use Rattle.vt_rank.specs.declared.graph.Item.TheVariants as items
use Rattle.vt_rank.specs.Graphs as graphs
use Rattle.vt_rank.specs.Paths.{IsPath, IsDistinct, IsCircle, HasNoCircle, IsLeastOnCircles}
use Rattle.vt_rank.specs.Graphs.{lists, items_of, group_of, nodes_of}
use Rattle.vt_verify.specs.declared.listing.Listing.{Listing}
use Rattle.vt_stores.specs.Shapes.{Shape, Fixed, fixed_at}
use Rattle.vt_verify.specs.Macros.{is_macro, commands_of, commands_in, commands}
use Rattle.vt_verify.specs.Triggers.{listing, row_listings, changes_mask, hidden, masks, is_event, listed, listed_in, triggered_by, triggered}
use Rattle.vt_verify.specs.Rules.{IsLeastCircle}
use Rattle.vt_verify.specs.TriggerGraphs.{IsTriggerGraph, is_event_of, has, if_any, if_listed, event_numbers, listed_events, group_of_event, groups_of, command_items, AreListings}
use Rattle.vt_verify.proofs.lemmas.rules.FirstFailure.{each_of_each}
use Rattle.vt_stores.proofs.SortedEntries.{both_true}
use Rattle.vt_verify.proofs.lemmas.graphs.EventGroups.{tied_same, from, numbers_are}

-- functions that are equal at each argument are equal
pub everywhere : {A B : Type 0} {f h : A → B} → ((x : A) → f x ≡ h x) → f ≡ h
everywhere equal = λ i x. equal x i

pub same_lists : {A B : Type 0} (f h : A → List B) (xs : List A) → ((x : A) → f x ≡ h x) → flat_map f xs ≡ flat_map h xs
same_lists f h xs equal = ap (λ f. flat_map f xs) (everywhere equal)

-- ---- listed events are among those of the pool

or_true : (a : Bool) → (a || true) ≡ true
or_true true = refl
or_true false = refl

in_front : (q : Listing) (xs ys : List Listing) → has xs q ≡ true → has (xs ++ ys) q ≡ true
in_front q xs ys is = list_any-append (is_event_of q) xs ys ∙ ap (λ b. b || has ys q) is

behind : (q : Listing) (xs ys : List Listing) → has ys q ≡ true → has (xs ++ ys) q ≡ true
behind q xs ys is = list_any-append (is_event_of q) xs ys ∙ ap (λ b. has xs q || b) is ∙ or_true (has xs q)

itself : (id n : ℕ) → is_event_of (listing id n) (listing id n) ≡ true
itself id n = ap₂ (λ (a b : Bool). a && b) (eq-eqb id id refl) (eq-eqb n n refl)

number_case : (shape : Shape) (id n x m : ℕ) (ms : List ℕ) (rest : List Listing) (b : Bool) (more : Bool) → listed shape (listing id n) ≡ m ∷ ms → nat_eq n x ≡ b
    → (more ≡ true → has rest (listing id n) ≡ true) → (b || more) ≡ true → has (if_listed shape (listing id x) ++ rest) (listing id n) ≡ true
number_case shape id n x m ms rest true more is here later any =
    in_front (listing id n) (if_listed shape (listing id x)) rest
    (ap (λ (x : ℕ). has (if_listed shape (listing id x)) (listing id n)) (sym (eqb-true n x here))
    ∙ ap (λ (l : List ℕ). has (if_any (listing id n) l) (listing id n)) is
    ∙ ap (λ b. b || false) (itself id n))
number_case shape id n x m ms rest false more is here later any = behind (listing id n) (if_listed shape (listing id x)) rest (later any)

among_numbers : (shape : Shape) (id n m : ℕ) (ms ns : List ℕ) → listed shape (listing id n) ≡ m ∷ ms → list_any (nat_eq n) ns ≡ true
    → has (flat_map (λ event. if_listed shape (listing id event)) ns) (listing id n) ≡ true
among_numbers shape id n m ms [] is any = absurd cc
among_numbers shape id n m ms (x ∷ ns) is any =
    number_case shape id n x m ms (flat_map (λ event. if_listed shape (listing id event)) ns) (nat_eq n x) (list_any (nat_eq n) ns) is refl
    (among_numbers shape id n m ms ns is) any

from_has_case : (n start : ℕ) (more b : Bool) → nat_eq n start ≡ b → ((n ≡ start → ⊥) → more ≡ true) → (b || more) ≡ true
from_has_case n start more true is later = refl
from_has_case n start more false is later =
    later (λ e. let never : false ≡ true = sym is ∙ eq-eqb n start e in absurd cc)

from_has : (n count start : ℕ) → start ≤ n → n < start + count → list_any (nat_eq n) (from count start) ≡ true
unfolding from
from_has n zero start low high = absurd (omega arith)
from_has n (suc count) start low high =
    from_has_case n start (list_any (nat_eq n) (from count (suc start))) (nat_eq n start) refl
    (λ other. from_has n count (suc start) (elim (cases_lt start n) [ inl lt ↦ omega arith | inr ge ↦ absurd (other (omega arith)) ]) (omega arith))

a_number : (n : ℕ) → IsTrue (is_event n) → list_any (nat_eq n) event_numbers ≡ true
a_number n is =
    let high = leb-true n 26 is in
    ap (λ (ns : List ℕ). list_any (nat_eq n) ns) numbers_are ∙ from_has n 27 0 (omega arith) (omega arith)

object_case : (shape : Shape) (id n m : ℕ) (ms : List ℕ) (e : ℕ × Fixed) (rest : List Listing) (found : Option Fixed) (f : Fixed) (b : Bool)
    → listed shape (listing id n) ≡ m ∷ ms → IsTrue (is_event n) → (b ≡ true → id ≡ e.0) → (found ≡ Some f → has rest (listing id n) ≡ true)
    → cond b (Some e.1) found ≡ Some f → has (flat_map (λ event. if_listed shape (listing e.0 event)) event_numbers ++ rest) (listing id n) ≡ true
object_case shape id n m ms e rest found f true is event alike later some =
    in_front (listing id n) (flat_map (λ event. if_listed shape (listing e.0 event)) event_numbers) rest
    (subst (λ (q : ℕ). has (flat_map (λ event. if_listed shape (listing q event)) event_numbers) (listing id n) ≡ true) (alike refl)
    (among_numbers shape id n m ms event_numbers is (a_number n event)))
object_case shape id n m ms e rest found f false is event alike later some =
    behind (listing id n) (flat_map (λ event. if_listed shape (listing e.0 event)) event_numbers) rest (later some)

among_objects : (shape es : Shape) (id n m : ℕ) (ms : List ℕ) (f : Fixed) → listed shape (listing id n) ≡ m ∷ ms → IsTrue (is_event n) → fixed_at es id ≡ Some f
    → has (flat_map (λ e. flat_map (λ event. if_listed shape (listing e.0 event)) event_numbers) es) (listing id n) ≡ true
among_objects shape [] id n m ms f is event found = absurd cc
among_objects shape (e ∷ es) id n m ms f is event found =
    object_case shape id n m ms e (flat_map (λ e. flat_map (λ event. if_listed shape (listing e.0 event)) event_numbers) es) (fixed_at es id) f (eq_by_cmp nat_cmp id e.0)
    is event (tied_same id e.0) (among_objects shape es id n m ms f is event) found

found_case : (n id m : ℕ) (ms : List ℕ) (found : Option Fixed) (P : Type 0) → ((f : Fixed) → found ≡ Some f → P) → flat_map (listed_in n id) (option_to_list found) ≡ m ∷ ms → P
found_case n id m ms None P here is = absurd cc
found_case n id m ms (Some f) P here is = here f refl

event_case : (b : Bool) (m : ℕ) (ms l : List ℕ) (P : Type 0) → (b ≡ true → l ≡ m ∷ ms → P) → cond b l [] ≡ m ∷ ms → P
event_case true m ms l P here is = here refl is
event_case false m ms l P here is = absurd cc

listed_is : (shape : Shape) (id n : ℕ) → listed shape (listing id n) ≡ cond (is_event n) (flat_map (listed_in n id) (option_to_list (fixed_at shape id))) []
unfolding listed
listed_is shape id n = refl

has_listed : (shape : Shape) (id n m : ℕ) (ms : List ℕ) → listed shape (listing id n) ≡ m ∷ ms → has (listed_events shape) (listing id n) ≡ true
has_listed shape id n m ms is =
    event_case (is_event n) m ms (flat_map (listed_in n id) (option_to_list (fixed_at shape id))) (has (listed_events shape) (listing id n) ≡ true)
    (λ event some. found_case n id m ms (fixed_at shape id) (has (listed_events shape) (listing id n) ≡ true)
    (λ f found. among_objects shape shape id n m ms f is event found) some)
    (sym (listed_is shape id n) ∙ is)

unlisted_case : (l : List ℕ) (h : Bool) → ((m : ℕ) (ms : List ℕ) → l ≡ m ∷ ms → h ≡ true) → cond h l [] ≡ l
unlisted_case [] true listed = refl
unlisted_case [] false listed = refl
unlisted_case (m ∷ ms) h listed = ap (λ h. cond h (m ∷ ms) []) (listed m ms refl)

pub unlisted : (shape : Shape) (q : Listing) → cond (has (listed_events shape) q) (listed shape q) [] ≡ listed shape q
unlisted shape q = unlisted_case (listed shape q) (has (listed_events shape) q) (λ m ms is. has_listed shape q.id q.event m ms is)

-- ---- the group of an event has the macros listed there

same_event : (shape : Shape) (q e : Listing) → is_event_of q e ≡ true → listed shape e ≡ listed shape q
same_event shape q e is =
    let parts = both_true (nat_eq q.id e.id) (nat_eq q.event e.event) is in
    ap₂ (λ (id event : ℕ). listed shape (listing id event)) (sym (eqb-true q.id e.id parts.0)) (sym (eqb-true q.event e.event parts.1))

group_case : (all : ℕ → List ℕ) (k : ℕ) (rest : Option ℕ) (l : List ℕ) (b h : Bool) → (b ≡ true → all k ≡ l)
    → flat_map all (option_to_list rest) ≡ cond h l [] → flat_map all (option_to_list (cond b (Some k) rest)) ≡ cond (b || h) l []
group_case all k rest l true h here later = append-nil (all k) ∙ here refl
group_case all k rest l false h here later = later

found_group : (shape : Shape) (all : ℕ → List ℕ) (q : Listing) (i : ℕ) (events : List Listing)
    → ((j : ℕ) → all (i + j) ≡ slice_index_or (map (listed shape) events) j [])
    → flat_map all (option_to_list (position_from (is_event_of q) i events)) ≡ cond (has events q) (listed shape q) []
found_group shape all q i [] at = refl
found_group shape all q i (e ∷ events) at =
    let here : i + 0 ≡ i = omega arith in
    group_case all i (position_from (is_event_of q) (i + 1) events) (listed shape q) (is_event_of q e) (has events q)
    (λ is. ap all (sym here) ∙ at 0 ∙ same_event shape q e is)
    (found_group shape all q (i + 1) events (λ j. let next : (i + 1) + j ≡ i + suc j = omega arith in ap all next ∙ at (suc j)))

-- ---- the triggers of nodes

group_nodes : (g : Graph) (ks : List ℕ) → flat_map (nodes_of g) (map items.Group ks) ≡ flat_map (group_of g) ks
group_nodes g [] = refl
group_nodes g (k ∷ ks) = ap (λ ns. group_of g k ++ ns) (group_nodes g ks)

most_case : (g : Graph) (b : Bool) → flat_map (nodes_of g) (cond b (items.Most ∷ []) []) ≡ cond b (flat_map (group_of g) g.most.items) []
most_case g true = append-nil (flat_map (group_of g) g.most.items)
most_case g false = refl

hidden_case : (f : Listing → List ℕ) (b : Bool) (rs : List Listing) → cond b (flat_map f rs) [] ≡ flat_map f (cond b rs [])
hidden_case f true rs = refl
hidden_case f false rs = refl

not_named : (b c : Bool) (l : List ℕ) → c ≡ false → flat_map commands_of (option_to_list (cond (b && c) (Some l) None)) ≡ []
not_named true true l is = absurd cc
not_named true false l is = refl
not_named false c l is = refl

above_case : (b : Bool) (n : ℕ) → nat_le n 255 ≡ b → 256 ≤ n → b ≡ false
above_case true n is high = let low = leb-true n 255 is in absurd (omega arith)
above_case false n is high = refl

unnamed_case : (n : ℕ) (found : Option Fixed) → 256 ≤ n → flat_map (commands_in n) (option_to_list found) ≡ []
unnamed_case n None high = refl
unnamed_case n (Some f) high = append-nil (commands_in n f) ∙ not_named (is_macro f.kind) (nat_le n 255) f.bytes (above_case (nat_le n 255) n refl high)

-- macros with IDs above 255 have no commands
pub unnamed : (shape : Shape) (n : ℕ) → 256 ≤ n → commands shape n ≡ []
unfolding commands
unnamed shape n high = unnamed_case n (fixed_at shape n) high

pub no_items : (g : Graph) (n : ℕ) → 256 ≤ n → items_of g n ≡ []
unfolding items_of
no_items g n high =
    let short = length-take 256 (lists g.nodes) in
    get_or_past (take 256 (lists g.nodes)) n [] (omega arith)

-- the groups of the events of a pool have the listed macros
pub listings_are : (shape : Shape) (events : List Listing) (groups : List (List ℕ)) → events ≡ listed_events shape
    → groups ≡ map (listed shape) (listed_events shape) → AreListings shape (events, groups)
listings_are shape events groups events_are groups_are q =
    found_group shape (λ k. slice_index_or groups k []) q 0 events
    (λ j. let same : 0 + j ≡ j = omega arith in
    ap (λ (k : ℕ). slice_index_or groups k []) same
    ∙ ap (λ (gs : List (List ℕ)). slice_index_or gs j []) (groups_are ∙ ap (λ (es : List Listing). map (listed shape) es) (sym events_are)))
    ∙ ap (λ (events : List Listing). cond (has events q) (listed shape q) []) events_are
    ∙ unlisted shape q

module _ (shape : Shape) (events : List Listing) (g : Graph) (are : IsTriggerGraph shape events g) where
  pub groups_at : (k : ℕ) → group_of g k ≡ slice_index_or (map (listed shape) events) k []
  unfolding group_of
  groups_at k = ap (λ (groups : List (List ℕ)). slice_index_or groups k []) are.groups

  -- the group of an event has the macros listed at it
  pub group_listed : (q : Listing) → flat_map (group_of g) (option_to_list (group_of_event events q)) ≡ listed shape q
  group_listed q =
      found_group shape (group_of g) q 0 events (λ j. let same : 0 + j ≡ j = omega arith in ap (group_of g) same ∙ groups_at j)
      ∙ ap (λ (events : List Listing). cond (has events q) (listed shape q) []) are.events_are
      ∙ unlisted shape q

  pub groups_listed : (qs : List Listing) → flat_map (group_of g) (groups_of events qs) ≡ flat_map (listed shape) qs
  groups_listed qs =
      each_of_each (group_of g) (λ (q : Listing). option_to_list (group_of_event events q)) qs
      ∙ same_lists (λ (q : Listing). flat_map (group_of g) (option_to_list (group_of_event events q))) (listed shape) qs group_listed

  most_listed : flat_map (group_of g) g.most.items ≡ flat_map (listed shape) (map (λ mask. listing mask 4) (masks shape))
  most_listed = ap (flat_map (group_of g)) are.most ∙ groups_listed (map (λ mask. listing mask 4) (masks shape))

  command_nodes : (command : Command) → flat_map (nodes_of g) (command_items events command) ≡ triggered_by shape command
  command_nodes command =
      let most = cond (changes_mask command) (items.Most ∷ []) [] in
      flat_map-append (nodes_of g) most (map items.Group (groups_of events (row_listings command)))
      ∙ ap₂ (λ (xs ys : List ℕ). xs ++ ys)
      (most_case g (changes_mask command) ∙ ap (λ (ns : List ℕ). cond (changes_mask command) ns []) most_listed
      ∙ hidden_case (listed shape) (changes_mask command) (map (λ mask. listing mask 4) (masks shape)))
      (group_nodes g (groups_of events (row_listings command)) ∙ groups_listed (row_listings command))
      ∙ sym (flat_map-append (listed shape) (hidden shape command) (row_listings command))

  -- the macros triggered by a macro are those of its node
  pub triggered_is : (n : ℕ) → graphs.triggered g n ≡ triggered shape n
  triggered_is n = elim (cases_lt n 256) [
    | inl lt ↦ ap (flat_map (nodes_of g)) (are.nodes n lt)
        ∙ each_of_each (nodes_of g) (command_items events) (commands shape n)
        ∙ same_lists (λ (c : Command). flat_map (nodes_of g) (command_items events c)) (triggered_by shape) (commands shape n) command_nodes
    | inr ge ↦ ap (flat_map (nodes_of g)) (no_items g n ge) ∙ sym (ap (flat_map (triggered_by shape)) (unnamed shape n ge))
  ]

  triggered_are : graphs.triggered g ≡ triggered shape
  triggered_are = everywhere triggered_is

  -- ---- paths and circles are the same in both

  pub path_is : (path : List ℕ) → IsPath (graphs.triggered g) path → IsPath (triggered shape) path
  path_is path is = subst (λ (next : ℕ → List ℕ). IsPath next path) triggered_are is

  pub circle_is : (path : List ℕ) → IsCircle (graphs.triggered g) path → IsCircle (triggered shape) path
  circle_is path is = subst (λ (next : ℕ → List ℕ). IsCircle next path) triggered_are is

  pub no_circle : HasNoCircle (graphs.triggered g) → HasNoCircle (triggered shape)
  no_circle none = subst HasNoCircle triggered_are none

  pub least_is : (n : ℕ) → IsLeastOnCircles (graphs.triggered g) n → IsLeastOnCircles (triggered shape) n
  least_is n least = subst (λ (next : ℕ → List ℕ). IsLeastOnCircles next n) triggered_are least

  pub least_circle : (path : List ℕ) → IsCircle (graphs.triggered g) path → IsDistinct path → IsLeastOnCircles (graphs.triggered g) (slice_index path 0) → IsLeastCircle shape path
  least_circle path circle once least = record {
    circle = circle_is path circle;
    once = once;
    least = least_is (slice_index path 0) least;
  }
