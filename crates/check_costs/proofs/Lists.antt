-- Lists of objects and of shares.
use Rattle.std.proofs.Common.{◌≡◌, ℕ, ◌+◌, ◌<◌, Bool, true, false, cond, List, [], ◌∷◌, ◌++◌, map, take, length, get_or, Option, refl, sym, ap, subst, ◌∙◌, arith}
use Rattle.std.proofs.lemmas.Bool.{leb-true}
use Rattle.std.proofs.lemmas.List.Elements.{All-nil, All-cons}
use Rattle.std.proofs.lemmas.List.Sorted.{All-permutation}
use Rattle.std.specs.Prelude.{filter, nat_le, All, Contains, Result, Ok, Err, IfOk}
use Rattle.std.specs.List.{flat_map}
use Rattle.vt_kinds.specs.declared.object.Object.{Object}
use Rattle.vt_kinds.specs.declared.kind.Kind.{Kind}
use Rattle.vt_kinds.specs.Records.{seen, kind_of}
use Rattle.vt_stores.specs.Shapes.{Shape, Fixed, fixed, shape_of}
use Rattle.vt_stores.specs.Stores.{seen_entry}
use Rattle.vt_stores.proofs.ObjectShapes.{seen_kind}
use Rattle.vt_stores.proofs.SortedEntries.{both_true}
use Rattle.vt_verify.specs.Macros.{is_macro, may_be_named, with_offsets, cut_or_none, pieces_of}
use Rattle.vt_verify.specs.Orders.{named_macros, IsByRank}
use Rattle.vt_verify.specs.Triggers.{is_mask, masks}
use Rattle.vt_verify.proofs.lemmas.graphs.EventGroups.{one_more}
use Rattle.check_costs.specs.declared.share.EventCost.{EventCost}
use Rattle.check_costs.specs.Shares.{piece_shares}

one_kept : {X A : Type 0} (f : X → A) (x : X) (b : Bool) (rest : List X) → map f (cond b (x ∷ rest) rest) ≡ cond b (f x ∷ []) [] ++ map f rest
one_kept f x true rest = refl
one_kept f x false rest = refl

pub kept_mapped : {X A : Type 0} (test : X → Bool) (f : X → A) (xs : List X) → map f (filter test xs) ≡ flat_map (λ x. cond (test x) (f x ∷ []) []) xs
kept_mapped test f [] = refl
kept_mapped test f (x ∷ xs) = one_kept f x (test x) (filter test xs) ∙ ap (λ l. cond (test x) (f x ∷ []) [] ++ l) (kept_mapped test f xs)

-- the ID of an object, if it is a mask
abbrev pub if_mask : ℕ × Fixed → List ℕ
if_mask e = cond (is_mask e.1.kind) (e.0 ∷ []) []

pub masks_are : (shape : Shape) → masks shape ≡ flat_map if_mask shape
masks_are shape = kept_mapped (λ (e : ℕ × Fixed). is_mask e.1.kind) (λ (e : ℕ × Fixed). e.0) shape

pub masks_more : {B : Type 0} (es : List (ℕ × Object B)) (i : ℕ) (e : ℕ × Object B) → i < length es → e ≡ get_or es i e
    → masks (shape_of (map seen_entry (take (i + 1) es))) ≡ masks (shape_of (map seen_entry (take i es))) ++ cond (is_mask (kind_of e.1)) (e.0 ∷ []) []
masks_more es i e lt is =
    masks_are (shape_of (map seen_entry (take (i + 1) es)))
    ∙ one_more if_mask es i e lt is
    ∙ ap (λ (l : List ℕ). l ++ if_mask (e.0, fixed (seen e.1))) (sym (masks_are (shape_of (map seen_entry (take i es)))))
    ∙ ap (λ (kind : Kind). masks (shape_of (map seen_entry (take i es))) ++ cond (is_mask kind) (e.0 ∷ []) []) (seen_kind e.1)

-- the shares of a macro's commands do not depend on its ID
of_pieces : (shape : Shape) (hide : Option EventCost) (id at : ℕ) (ps : List (List ℕ)) → flat_map (piece_shares shape hide) (with_offsets 0 at ps) ≡ flat_map (piece_shares shape hide) (with_offsets id at ps)
of_pieces shape hide id at [] = refl
of_pieces shape hide id at (p ∷ ps) = ap (λ l. piece_shares shape hide (record { id = id; at = at; bytes = p }) ++ l) (of_pieces shape hide id (at + length p) ps)

pub same_pieces : (shape : Shape) (hide : Option EventCost) (id : ℕ) (bytes : List ℕ) → flat_map (piece_shares shape hide) (pieces_of (0, bytes)) ≡ flat_map (piece_shares shape hide) (pieces_of (id, bytes))
same_pieces shape hide id bytes = of_pieces shape hide id 0 (cut_or_none bytes)

-- ---- results

pub if_ok : {T E : Type 0} {P Q : T → Type 0} (r : Result T E) → IfOk r P → ((x : T) → P x → Q x) → IfOk r Q
if_ok (Ok x) is step = step x is
if_ok (Err e) is step = tt

-- ---- the IDs of macros

below_if : (b : Bool) (n : ℕ) (rest : List ℕ) → (b ≡ true → n < 256) → All (λ m. m < 256) rest → All (λ m. m < 256) (cond b (n ∷ []) [] ++ rest)
below_if true n rest here all = All-cons (λ m. m < 256) n rest (here refl) all
below_if false n rest here all = all

named_below : (id : ℕ) (f : Fixed) → may_be_named id f ≡ true → id < 256
named_below id f is =
    let low = leb-true id 255 (both_true (is_macro f.kind) (nat_le id 255) is).1 in
    omega (arith, low)

all_below : (shape : Shape) → All (λ m. m < 256) (named_macros shape)
all_below [] = All-nil (λ m. m < 256)
all_below (e ∷ shape) = below_if (may_be_named e.0 e.1) e.0 (named_macros shape) (named_below e.0 e.1) (all_below shape)

pub ordered_below : (shape : Shape) (order : List ℕ) (id : ℕ) → IsByRank shape order → Contains order id → id < 256
ordered_below shape order id is inside =
    subst (λ (m : ℕ). m < 256) inside.2 (All-permutation (λ m. m < 256) (named_macros shape) order is.all (all_below shape) inside.0 id inside.1)
