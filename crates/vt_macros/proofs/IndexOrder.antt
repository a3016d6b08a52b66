-- The macros in the index, in the order in which they are appended.
use Rattle.std.proofs.Common.{◌≡◌, ◌<◌, ℕ, zero, suc, ◌+◌, Bool, true, false, cond, ◌||◌, List, [], ◌∷◌, ◌++◌, map, take, length, get_or, Option, Some, None, refl, sym, ap, ap₂, subst, ◌∙◌, arith}
use Rattle.std.proofs.lemmas.Bool.{eqb-true, eq-eqb}
use Rattle.std.proofs.lemmas.List.{append-nil, take_more}
use Rattle.std.proofs.lemmas.List.Elements.{Contains-append_left, Contains-append_right}
use Rattle.std.proofs.lemmas.List.Folds.{list_any-append}
use Rattle.std.proofs.lemmas.List.Sorted.{Contains-permutation}
use Rattle.std.specs.Prelude.{Contains, nat_eq}
use Rattle.std.specs.List.{flat_map, list_any}
use Rattle.std.specs.Option.{option_to_list}
use Rattle.std.specs.Ordering.{nat_cmp, eq_by_cmp}
use Rattle.vt_commands.specs.declared.command.Command.{Command}
use Rattle.vt_stores.specs.Shapes.{Shape, Fixed, fixed_at}
use Rattle.vt_verify.specs.Macros.{may_be_named, commands_of, commands_in, commands}
use Rattle.vt_verify.specs.Triggers.{run_by_name}
use Rattle.vt_verify.specs.Orders.{named_macros, IsByRank}
use Rattle.vt_verify.proofs.lemmas.graphs.EventGroups.{tied_same}

-- the commands of a macro in a list of macros; none for other macros
abbrev pub among : Shape → List ℕ → ℕ → List Command
among shape ids id = cond (list_any (nat_eq id) ids) (commands shape id) []

-- ---- one more macro

step_case : (shape : Shape) (id other : ℕ) (b x : Bool) (got all old : List (Option Command)) → nat_eq other id ≡ b → got ≡ cond b all old
    → all ≡ map Some (commands shape id) → old ≡ map Some (cond x (commands shape other) []) → got ≡ map Some (cond (x || (b || false)) (commands shape other) [])
step_case shape id other true true got all old same is new before = is ∙ new ∙ ap (λ (n : ℕ). map Some (commands shape n)) (sym (eqb-true other id same))
step_case shape id other true false got all old same is new before = is ∙ new ∙ ap (λ (n : ℕ). map Some (commands shape n)) (sym (eqb-true other id same))
step_case shape id other false true got all old same is new before = is ∙ before
step_case shape id other false false got all old same is new before = is ∙ before

pub one_more : (shape : Shape) (order : List ℕ) (i id other : ℕ) (got all old : List (Option Command)) → i < length order → id ≡ get_or order i 0
    → got ≡ cond (nat_eq other id) all old → all ≡ map Some (commands shape id) → old ≡ map Some (among shape (take i order) other)
    → got ≡ map Some (among shape (take (i + 1) order) other)
one_more shape order i id other got all old lt at is new before =
    step_case shape id other (nat_eq other id) (list_any (nat_eq other) (take i order)) got all old refl is new before
    ∙ ap (λ (b : Bool). map Some (cond b (commands shape other) []))
    (sym (ap (list_any (nat_eq other)) (take_more order i 0 lt ∙ ap (λ (n : ℕ). take i order ++ n ∷ []) (sym at))
    ∙ list_any-append (nat_eq other) (take i order) (id ∷ [])))

-- ---- all macros with commands are in the list

named_case : (e : ℕ × Fixed) (es : Shape) (id : ℕ) (f : Fixed) (b : Bool) → (b ≡ true → id ≡ e.0) → (fixed_at es id ≡ Some f → Contains (named_macros es) id)
    → run_by_name id f ≡ id ∷ [] → cond b (Some e.1) (fixed_at es id) ≡ Some f → Contains (run_by_name e.0 e.1 ++ named_macros es) id
named_case e es id f true alike later named some =
    let same : e.1 ≡ f = cc in
    let here : run_by_name e.0 e.1 ≡ id ∷ [] = ap₂ (λ (n : ℕ) (g : Fixed). run_by_name n g) (sym (alike refl)) same ∙ named in
    Contains-append_left (run_by_name e.0 e.1) (named_macros es) id (subst (λ (l : List ℕ). Contains l id) (sym here) (0, omega arith, refl))
named_case e es id f false alike later named some = Contains-append_right (run_by_name e.0 e.1) (named_macros es) id (later some)

named_in : (es : Shape) (id : ℕ) (f : Fixed) → run_by_name id f ≡ id ∷ [] → fixed_at es id ≡ Some f → Contains (named_macros es) id
named_in [] id f named some = absurd cc
named_in (e ∷ es) id f named some = named_case e es id f (eq_by_cmp nat_cmp id e.0) (tied_same id e.0) (named_in es id f named) named some

may_case : (id : ℕ) (b : Bool) (bytes : List ℕ) (c : Command) (cs : List Command) → flat_map commands_of (option_to_list (cond b (Some bytes) None)) ≡ c ∷ cs
    → cond b (id ∷ []) [] ≡ id ∷ []
may_case id true bytes c cs is = refl
may_case id false bytes c cs is = absurd cc

found_case : (shape : Shape) (id : ℕ) (found : Option Fixed) (c : Command) (cs : List Command) → fixed_at shape id ≡ found
    → flat_map (commands_in id) (option_to_list found) ≡ c ∷ cs → Contains (named_macros shape) id
found_case shape id None c cs at is = absurd cc
found_case shape id (Some f) c cs at is =
    named_in shape id f (may_case id (may_be_named id f) f.bytes c cs (sym (append-nil (commands_in id f)) ∙ is)) at

named : (shape : Shape) (id : ℕ) (c : Command) (cs : List Command) → commands shape id ≡ c ∷ cs → Contains (named_macros shape) id
unfolding commands
named shape id c cs is = found_case shape id (fixed_at shape id) c cs refl is

or_true : (b : Bool) → (b || true) ≡ true
or_true true = refl
or_true false = refl

found_any : (id : ℕ) (ids : List ℕ) (k : ℕ) → k < length ids → get_or ids k id ≡ id → list_any (nat_eq id) ids ≡ true
found_any id [] k lt is = absurd (omega arith)
found_any id (n ∷ ids) zero lt is = ap (λ (b : Bool). b || list_any (nat_eq id) ids) (eq-eqb id n (sym is))
found_any id (n ∷ ids) (suc k) lt is = ap (λ (b : Bool). nat_eq id n || b) (found_any id ids k (omega arith) is) ∙ or_true (nat_eq id n)

among_case : (b : Bool) (cs : List Command) → ((c : Command) (more : List Command) → cs ≡ c ∷ more → b ≡ true) → cond b cs [] ≡ cs
among_case true cs there = refl
among_case false [] there = refl
among_case false (c ∷ cs) there = let never = there c cs refl in absurd cc

pub all_among : (shape : Shape) (order : List ℕ) (id : ℕ) → IsByRank shape order → among shape order id ≡ commands shape id
all_among shape order id by_rank =
    among_case (list_any (nat_eq id) order) (commands shape id)
    (λ c cs is.
    let there = Contains-permutation (named_macros shape) order id by_rank.all (named shape id c cs is) in
    found_any id order there.0 there.1 there.2)
