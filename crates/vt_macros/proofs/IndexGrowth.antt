-- The index of macros grows command by command and macro by macro.
use Rattle.std.proofs.Common.{◌≡◌, ◌≢◌, ◌<◌, ◌≤◌, ◌⊎◌, inl, inr, ℕ, zero, suc, ◌+◌, Bool, true, false, cond, List, [], ◌∷◌, ◌++◌, map, take, drop, length, get_or, Option, Some, refl, sym, ap, ap₂, subst, ◌∙◌, arith}
use Rattle.std.proofs.lemmas.List.{append_assoc, append-nil, map-append, length-append, length-map, length-take, take-append-le, drop-append-le, take-append-drop, take_all, drop_all, get_or-set_same, get_or-set_other, get_or-replicate, get_or_past}
use Rattle.std.proofs.lemmas.Bool.{eqb-true, eq-eqb, cases_lt}
use Rattle.std.proofs.Math.ListN.{set, length-set, replicate, length-replicate}
use Rattle.std.proofs.Math.Seq.{drop-append_seam}
use Rattle.std.specs.Prelude.{nat_eq}
use Rattle.std.specs.List.{AllByRecursion}
use Rattle.vt_commands.specs.declared.command.Command.{Command}
use Rattle.vt_commands.specs.Commands.{command_at}
use Rattle.vt_macros.specs.declared.index.Index.{Index}
use Rattle.vt_macros.specs.declared.index.Span.{Span}
use Rattle.vt_macros.specs.Indexes.{in_span, no_span, command_in, HasSpansInBounds}

-- ---- spans of growing lists

pub no_part : {A : Type 0} (xs : List A) (s : Span) → xs ≡ [] → in_span xs s ≡ []
no_part xs s is = ap (λ xs. in_span xs s) is ∙ ap (drop s.start) (take_all s.end [] (omega arith)) ∙ drop_all s.start [] (omega arith)

pub part_stays : {A : Type 0} (xs more : List A) (s : Span) → s.end ≤ length xs → in_span (xs ++ more) s ≡ in_span xs s
part_stays xs more s le = ap (drop s.start) (take-append-le s.end xs more le)

-- the span of the elements appended last
pub part_added : {A : Type 0} (xs more : List A) (s : Span) → s.start ≡ length xs → s.end ≡ length xs + length more → in_span (xs ++ more) s ≡ more
part_added xs more s start end =
    let all = length-append xs more in
    ap (drop s.start) (take_all s.end (xs ++ more) (omega (arith, all, end)))
    ∙ ap (λ (n : ℕ). drop n (xs ++ more)) start ∙ drop-append_seam xs more

-- ---- spans that end within the bytes

abbrev pub EndBy : ℕ → List Span → Type 0
EndBy n spans = AllByRecursion (λ s. s.end ≤ n) spans

pub end_later : (n m : ℕ) (spans : List Span) → n ≤ m → EndBy n spans → EndBy m spans
end_later n m [] le all = tt
end_later n m (s ∷ spans) le all = let first = all.0 in (omega (arith, first, le), end_later n m spans le all.1)

pub ends_added : (n : ℕ) (spans : List Span) (s : Span) → s.end ≤ n → EndBy n spans → EndBy n (spans ++ s ∷ [])
ends_added n [] s le all = (le, tt)
ends_added n (x ∷ spans) s le all = (all.0, ends_added n spans s le all.1)

pub ends_left : (n k : ℕ) (spans : List Span) → EndBy n spans → EndBy n (drop k spans)
ends_left n zero spans all = all
ends_left n (suc k) [] all = tt
ends_left n (suc k) (s ∷ spans) all = ends_left n k spans all.1

pub ends_taken : (n k : ℕ) (spans : List Span) → EndBy n spans → EndBy n (take k spans)
ends_taken n zero spans all = tt
ends_taken n (suc k) [] all = tt
ends_taken n (suc k) (s ∷ spans) all = (all.0, ends_taken n k spans all.1)

-- ---- the commands at spans

abbrev pub reads : List ℕ → List Span → List (Option Command)
reads bytes spans = map (λ s. command_at (in_span bytes s)) spans

pub reads_stay : (bytes more : List ℕ) (spans : List Span) → EndBy (length bytes) spans → reads (bytes ++ more) spans ≡ reads bytes spans
reads_stay bytes more [] all = refl
reads_stay bytes more (s ∷ spans) all =
    ap₂ (λ (c : Option Command) (cs : List (Option Command)). c ∷ cs) (ap command_at (part_stays bytes more s all.0)) (reads_stay bytes more spans all.1)

-- one more command is read
pub reads_added : (bytes piece : List ℕ) (spans : List Span) (k : ℕ) (s : Span) → k ≤ length spans → EndBy (length bytes) spans
    → s.start ≡ length bytes → s.end ≡ length bytes + length piece
    → reads (bytes ++ piece) (drop k (spans ++ s ∷ [])) ≡ reads bytes (drop k spans) ++ command_at piece ∷ []
reads_added bytes piece spans k s le all start end =
    ap (reads (bytes ++ piece)) (drop-append-le k spans (s ∷ []) le)
    ∙ map-append (λ (s : Span). command_at (in_span (bytes ++ piece) s)) (drop k spans) (s ∷ [])
    ∙ ap₂ (λ (cs : List (Option Command)) (c : Option Command). cs ++ c ∷ [])
    (reads_stay bytes piece (drop k spans) (ends_left (length bytes) k spans all))
    (ap command_at (part_added bytes piece s start end))

-- an earlier macro reads as before
pub macro_stays : (bytes bytes' : List ℕ) (spans spans' : List Span) (s : Span) → take (length bytes) bytes' ≡ bytes → take (length spans) spans' ≡ spans
    → s.end ≤ length spans → EndBy (length bytes) spans → reads bytes' (in_span spans' s) ≡ reads bytes (in_span spans s)
macro_stays bytes bytes' spans spans' s front fronts le all =
    let more = drop (length bytes) bytes' in
    let grown : bytes' ≡ bytes ++ more = sym (take-append-drop (length bytes) bytes') ∙ ap (λ (f : List ℕ). f ++ more) front in
    let after = drop (length spans) spans' in
    let grown_spans : spans' ≡ spans ++ after = sym (take-append-drop (length spans) spans') ∙ ap (λ (f : List Span). f ++ after) fronts in
    ap₂ (λ (bs : List ℕ) (ss : List Span). reads bs (in_span ss s)) grown grown_spans
    ∙ ap (reads (bytes ++ more)) (part_stays spans after s le)
    ∙ reads_stay bytes more (in_span spans s) (ends_left (length bytes) s.start (take s.end spans) (ends_taken (length bytes) s.end spans all))

-- ---- a macro that is appended command by command

-- the earlier macros are unchanged, and the commands read so far and the remaining ones are all commands of the macro
pub record IsGrown (first now : Index) (all left : List (Option Command)) : Type 0 where
  pub within : HasSpansInBounds now
  pub listings_stay : now.listings ≡ first.listings
  pub macros_stay : now.macros.items ≡ first.macros.items
  pub bytes_stay : take (length first.bytes.items) now.bytes.items ≡ first.bytes.items
  pub pieces_stay : take (length first.pieces.items) now.pieces.items ≡ first.pieces.items
  pub read : reads now.bytes.items (drop (length first.pieces.items) now.pieces.items) ++ left ≡ all

at_least : {A : Type 0} (xs ys : List A) → take (length xs) ys ≡ xs → length xs ≤ length ys
at_least xs ys is =
    let same = ap length is in
    omega (arith, same, length-take (length xs) ys)

front_stays : {A : Type 0} (xs ys more : List A) → take (length xs) ys ≡ xs → take (length xs) (ys ++ more) ≡ xs
front_stays xs ys more is = take-append-le (length xs) ys more (at_least xs ys is) ∙ is

pub grown_first : (first : Index) (all : List (Option Command)) → HasSpansInBounds first → IsGrown first first all all
grown_first first all within = record {
  within = within;
  listings_stay = refl;
  macros_stay = refl;
  bytes_stay = take_all (length first.bytes.items) first.bytes.items (omega arith);
  pieces_stay = take_all (length first.pieces.items) first.pieces.items (omega arith);
  read = ap (λ (ss : List Span). reads first.bytes.items ss ++ all) (drop_all (length first.pieces.items) first.pieces.items (omega arith));
}

added : List ℕ → List ℕ → Span
added bytes piece = record { start = length bytes; end = length bytes + length piece }

within_more : (now next : Index) (piece : List ℕ) → HasSpansInBounds now → next.macros.items ≡ now.macros.items
    → next.bytes.items ≡ now.bytes.items ++ piece → next.pieces.items ≡ now.pieces.items ++ added now.bytes.items piece ∷ [] → HasSpansInBounds next
unfolding added
within_more now next piece within macros bytes pieces =
    let more_bytes = ap length bytes ∙ length-append now.bytes.items piece in
    let more_pieces = ap length pieces ∙ length-append now.pieces.items (added now.bytes.items piece ∷ []) in record {
      count = ap length macros ∙ within.count;
      of_pieces = λ id.
          let low = within.of_pieces id in
          let same = ap (λ (ss : List Span). (get_or ss id no_span).end) macros in
          omega (arith, low, same, more_pieces);
      of_bytes = subst (λ (ss : List Span). EndBy (length next.bytes.items) ss) (sym pieces)
          (ends_added (length next.bytes.items) now.pieces.items (added now.bytes.items piece) (omega (arith, more_bytes))
          (end_later (length now.bytes.items) (length next.bytes.items) now.pieces.items (omega (arith, more_bytes)) within.of_bytes));
    }

pub grown_more : (first now next : Index) (all left : List (Option Command)) (piece : List ℕ) → IsGrown first now all (command_at piece ∷ left)
    → next.listings ≡ now.listings → next.macros.items ≡ now.macros.items → next.bytes.items ≡ now.bytes.items ++ piece
    → next.pieces.items ≡ now.pieces.items ++ (record { start = length now.bytes.items; end = length now.bytes.items + length piece }) ∷ [] → IsGrown first next all left
unfolding added
grown_more first now next all left piece grown listings macros bytes pieces =
    let count = length first.pieces.items in
    let span = added now.bytes.items piece in record {
      within = within_more now next piece grown.within macros bytes pieces;
      listings_stay = listings ∙ grown.listings_stay;
      macros_stay = macros ∙ grown.macros_stay;
      bytes_stay = ap (take (length first.bytes.items)) bytes ∙ front_stays first.bytes.items now.bytes.items piece grown.bytes_stay;
      pieces_stay = ap (take count) pieces ∙ front_stays first.pieces.items now.pieces.items (span ∷ []) grown.pieces_stay;
      read = ap₂ (λ (bs : List ℕ) (ss : List Span). reads bs (drop count ss) ++ left) bytes pieces
          ∙ ap (λ (cs : List (Option Command)). cs ++ left)
          (reads_added now.bytes.items piece now.pieces.items count span (at_least first.pieces.items now.pieces.items grown.pieces_stay) grown.within.of_bytes refl refl)
          ∙ append_assoc (reads now.bytes.items (drop count now.pieces.items)) (command_at piece ∷ []) left
          ∙ grown.read;
    }

-- ---- the macro's span among the macros

module _ (first now next : Index) (id : ℕ) (all : List (Option Command)) (low : id < 256) (grown : IsGrown first now all []) (within : HasSpansInBounds first)
    (bytes : next.bytes.items ≡ now.bytes.items) (pieces : next.pieces.items ≡ now.pieces.items)
    (macros : next.macros.items ≡ set now.macros.items id (record { start = length first.pieces.items; end = length now.pieces.items })) where
  put : Span
  put = record { start = length first.pieces.items; end = length now.pieces.items }

  placed : (other : ℕ) → other ≡ id → get_or next.macros.items other no_span ≡ put
  unfolding put
  placed other same =
      let count = grown.within.count in
      ap (λ (ss : List Span). get_or ss other no_span) macros
      ∙ ap (λ (n : ℕ). get_or (set now.macros.items id put) n no_span) same
      ∙ get_or-set_same now.macros.items id put no_span (omega (arith, count))

  not_placed : (other : ℕ) → other ≢ id → get_or next.macros.items other no_span ≡ get_or first.macros.items other no_span
  unfolding put
  not_placed other differs =
      ap (λ (ss : List Span). get_or ss other no_span) macros
      ∙ get_or-set_other now.macros.items id other put no_span differs
      ∙ ap (λ (ss : List Span). get_or ss other no_span) grown.macros_stay

  place_ends : (other : ℕ) (b : Bool) → nat_eq other id ≡ b → (get_or next.macros.items other no_span).end ≤ length next.pieces.items
  unfolding put
  place_ends other true is =
      let here = ap (λ (s : Span). s.end) (placed other (eqb-true other id is)) in
      let same = ap length pieces in
      omega (arith, here, same)
  place_ends other false is =
      let there = ap (λ (s : Span). s.end) (not_placed other (λ e. let never : false ≡ true = sym is ∙ eq-eqb other id e in absurd cc)) in
      let before = within.of_pieces other in
      let same = ap length pieces in
      let least = at_least first.pieces.items now.pieces.items grown.pieces_stay in
      omega (arith, there, before, same, least)

  pub put_within : HasSpansInBounds next
  put_within = record {
    count = ap length macros ∙ length-set now.macros.items id _ ∙ grown.within.count;
    of_pieces = λ other. place_ends other (nat_eq other id) refl;
    of_bytes = subst (λ (bs : List ℕ). EndBy (length bs) next.pieces.items) (sym bytes)
        (subst (λ (ss : List Span). EndBy (length now.bytes.items) ss) (sym pieces) grown.within.of_bytes);
  }

  read_case : (other : ℕ) (b : Bool) → nat_eq other id ≡ b
      → reads next.bytes.items (in_span next.pieces.items (get_or next.macros.items other no_span))
      ≡ cond b all (reads first.bytes.items (in_span first.pieces.items (get_or first.macros.items other no_span)))
  unfolding put
  read_case other true is =
      ap₂ (λ (bs : List ℕ) (ss : List Span). reads bs ss) bytes
      (ap₂ (λ (ss : List Span) (s : Span). in_span ss s) pieces (placed other (eqb-true other id is))
      ∙ ap (drop (length first.pieces.items)) (take_all (length now.pieces.items) now.pieces.items (omega arith)))
      ∙ sym (append-nil (reads now.bytes.items (drop (length first.pieces.items) now.pieces.items)))
      ∙ grown.read
  read_case other false is =
      ap₂ (λ (bs : List ℕ) (ss : List Span). reads bs ss) bytes
      (ap₂ (λ (ss : List Span) (s : Span). in_span ss s) pieces
      (not_placed other (λ e. let never : false ≡ true = sym is ∙ eq-eqb other id e in absurd cc)))
      ∙ macro_stays first.bytes.items now.bytes.items first.pieces.items now.pieces.items (get_or first.macros.items other no_span)
      grown.bytes_stay grown.pieces_stay (within.of_pieces other) within.of_bytes

  pub put_read : (other : ℕ) → reads next.bytes.items (in_span next.pieces.items (get_or next.macros.items other no_span))
      ≡ cond (nat_eq other id) all (reads first.bytes.items (in_span first.pieces.items (get_or first.macros.items other no_span)))
  put_read other = read_case other (nat_eq other id) refl

-- ---- the index before any macro

none_ends : (id n : ℕ) → (id < n) ⊎ (n ≤ id) → (get_or (replicate n no_span) id no_span).end ≤ 0
none_ends id n (inl lt) = let is = ap (λ (s : Span). s.end) (get_or-replicate n id no_span no_span lt) in omega (arith, is)
none_ends id n (inr le) =
    let is = ap (λ (s : Span). s.end) (get_or_past (replicate n no_span) id no_span (omega (arith, length-replicate n no_span, le))) in omega (arith, is)

no_ends : (id n : ℕ) → (get_or (replicate n no_span) id no_span).end ≤ 0
no_ends id n = none_ends id n (cases_lt id n)

pub none_within : (index : Index) → index.macros.items ≡ replicate 256 no_span → index.pieces.items ≡ [] → HasSpansInBounds index
none_within index macros pieces = record {
  count = ap length macros ∙ length-replicate 256 no_span;
  of_pieces = λ id.
      let same = ap (λ (ss : List Span). (get_or ss id no_span).end) macros in
      let none = no_ends id 256 in
      omega (arith, same, none);
  of_bytes = subst (λ (ss : List Span). EndBy (length index.bytes.items) ss) (sym pieces) tt;
}

-- ---- a loop over the spans of a macro's commands

-- there are as many spans as commands
pub as_many : (index : Index) (spans : List Span) (commands : List Command) → map (command_in index) spans ≡ map Some commands → length spans ≡ length commands
as_many index spans commands is =
    let same = ap length is in
    omega (arith, same, length-map spans (command_in index), length-map commands (λ (c : Command). Some c))

-- the command at the next span is the next command
pub reads_next : (index : Index) (spans : List Span) (commands : List Command) (i : ℕ) (d : Span) → map (command_in index) spans ≡ map Some commands → i < length spans
    → (c : Command) × (command_in index (get_or spans i d) ≡ Some c) × (drop i commands ≡ c ∷ drop (i + 1) commands)
reads_next index [] commands i d is lt = absurd (omega arith)
reads_next index (s ∷ spans) [] i d is lt = absurd cc
reads_next index (s ∷ spans) (c ∷ commands) zero d is lt = (c, cc, refl)
reads_next index (s ∷ spans) (c ∷ commands) (suc i) d is lt =
    let later : map (command_in index) spans ≡ map Some commands = cc in
    let next = reads_next index spans commands i d later (omega arith) in
    let one : suc i + 1 ≡ suc (i + 1) = omega arith in
    (next.0, next.1, next.2 ∙ ap (λ (k : ℕ). next.0 ∷ drop k (c ∷ commands)) (sym one))
