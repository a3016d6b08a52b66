-- How deep the answers to questions nest.
use Rattle.std.proofs.Common.{◌≡◌, ◌≤◌, ℕ, Bool, true, false, List, [], ◌∷◌, map, Option, Some, None, nat_lt, if◌then◌else◌, refl, sym, subst, arith}
use Rattle.serde_json.specs.Data.{Data, depth, items_depth, null}
use Rattle.serde_json.specs.View.{items_of}
use Rattle.vt_dialogs.specs.declared.limits.InputLimits.{InputLimits}
use Rattle.vt_kinds.specs.Ids.{null_id}
use Rattle.vt_names.specs.Registry.{Set}
use Rattle.draw_picture.specs.declared.listing.ListedElement.{ListedElement}
use Rattle.vt_server.specs.Terminals.{State}
use Rattle.vt_session.specs.Dialogs.{limits_by}
use Rattle.vt_session.specs.Readings.{elements_shown, pool_by, touched_of}
use Rattle.vt_service.specs.Answers.{answer_data}
use Rattle.vt_service.specs.Asking.{IsValue, element_data, elements_data, id_if, limits_if, name_data, set_data, sets_data}
use Rattle.vt_service.specs.Values.{id_data, number_data, number_or_null}
use Rattle.vt_service.specs.declared.request.Question.{Question}
use Rattle.vt_service.specs.declared.request.Question.TheVariants as questions

picked : (b : Bool) (id : ℕ) → depth (if b then number_data id else null) ≡ 0
picked true id = refl
picked false id = refl

id_depth : (id : ℕ) → depth (id_data id) ≡ 0
id_depth id = picked (nat_lt id null_id) id

id_if_depth : (id : Option ℕ) → depth (id_if id) ≡ 0
id_if_depth None = refl
id_if_depth (Some id) = id_depth id

number_depth : (n : Option ℕ) → depth (number_or_null n) ≡ 0
number_depth None = refl
number_depth (Some n) = refl

name_depth : (name : Option ℕ) → depth (name_data name) ≡ 0
name_depth None = refl
name_depth (Some name) = refl

element_depth : (e : ListedElement) → depth (element_data e) ≤ 1
element_depth e = simp number_depth (omega arith)

elements_depth : (es : List ListedElement) → items_depth (items_of (map element_data es)) ≤ 1
elements_depth [] = omega arith
elements_depth (e ∷ es) = omega (arith, element_depth e, elements_depth es)

set_depth : (s : State) (set : Set) → depth (set_data s set) ≤ 1
set_depth s set = simp (id_if_depth, name_depth) (omega arith)

sets_depth : (s : State) (sets : List Set) → items_depth (items_of (map (set_data s) sets)) ≤ 1
sets_depth s [] = omega arith
sets_depth s (set ∷ sets) = omega (arith, set_depth s set, sets_depth s sets)

limits_depth : (limits : Option InputLimits) → depth (limits_if limits) ≤ 1
limits_depth None = omega arith
limits_depth (Some limits) = omega arith

as_deep : {d e : Data} → d ≡ e → depth e ≤ 2 → depth d ≤ 2
as_deep is le = subst (λ (x : Data). depth x ≤ 2) (sym is) le

pub value_depth : (s : State) (q : Question) (d : Data) → IsValue s q d → depth d ≤ 2
value_depth s questions.Screen d is = as_deep is.2 (omega arith)
value_depth s (questions.Picture address mask) d is = as_deep is.2 (omega arith)
value_depth s (questions.Part address id) d is = as_deep is.2 (omega arith)
value_depth s questions.Elements d is = as_deep is (omega (arith, elements_depth (elements_shown s)))
value_depth s (questions.Object address id) d is = as_deep is (omega arith)
value_depth s questions.Sets d is = as_deep is (omega (arith, sets_depth s s.sets))
value_depth s (questions.Limits address id) d is = as_deep is (omega (arith, limits_depth (limits_by (pool_by s address) id)))
value_depth s (questions.Raw address id typed) d is = as_deep is.2 (omega (arith, number_depth is.0))
value_depth s (questions.Touch x y) d is = as_deep is (omega (arith, id_depth (touched_of (elements_shown s) x y)))
value_depth s (questions.Words frame) d is = as_deep is.1 (omega arith)

pub answer_depth : (number : Option ℕ) (value : Data) → depth value ≤ 2 → depth (answer_data number value) ≤ 127
answer_depth number value le = simp number_depth (omega (arith, le))
