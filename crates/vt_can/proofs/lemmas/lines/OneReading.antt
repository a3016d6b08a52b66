-- Proof that the reading of a line is unique.
use Rattle.std.proofs.Common.{◌≡◌, ℕ, List, [], ◌∷◌, ◌++◌, length, slice_index, subst, Result, Ok, Err, refl, sym, ap, ◌∙◌, arith, inl, inr}
use Rattle.std.specs.Prelude.{codes}
use Rattle.std.proofs.lemmas.List.{append_cancel_left, append_cancel_right}
use Rattle.vt_can.specs.declared.lines.line.LineFault.{LineFault}
use Rattle.vt_can.specs.declared.lines.line.LineFault.TheVariants.{Time, Shape, Operator}
use Rattle.vt_can.specs.lines.Actions.{ActionValue, IsActionText}
use Rattle.vt_can.specs.lines.Readings.{ParsedLine, OperatorAction, CommentLine}
use Rattle.vt_can.specs.lines.Line.{IsContent, IsComment, IsOperatorLine, IsOtherLine, IsRead, HasTime, HasShape, ReadingsAreOne, comment, operator_action, no_action, no_time, no_shape, frame_line, frame_line_reading}
use Rattle.vt_can.proofs.lemmas.lines.Actions.{action-one}
use Rattle.vt_can.proofs.lemmas.lines.Shape.{time-cut, time-one, shape-one}

content-one : (line a b : List ℕ) → IsContent line a → IsContent line b → a ≡ b
content-one line a b (inl e) (inl f) = append_cancel_right a b (codes "\r") (sym e ∙ f)
content-one line a b (inl e) (inr f) = absurd (f.1 a e)
content-one line a b (inr e) (inl f) = absurd (e.1 b f)
content-one line a b (inr e) (inr f) = sym e.0 ∙ f.0

-- ---- the kind of a line is unique

first_none : (x : ℕ) (rest : List ℕ) → x ∷ rest ≡ [] → ⊥
first_none x rest e = let lengths = ap length e in omega arith

first_same : (x y : ℕ) (rest after : List ℕ) → x ∷ rest ≡ y ∷ after → x ≡ y
first_same x y rest after e = ap (λ (xs : List ℕ). slice_index xs 0) e

no_comment : (content : List ℕ) (x : ℕ) (rest : List ℕ) → content ≡ x ∷ rest → (x ≡ 35 → ⊥) → IsComment content → ⊥
no_comment content x rest opens other (inl e) = first_none x rest (sym opens ∙ e)
no_comment content x rest opens other (inr r) = other (first_same x 35 rest r.0 (sym opens ∙ r.1))

operator_no_comment : {content rest : List ℕ} → IsOperatorLine content rest → IsComment content → ⊥
operator_no_comment {content} {rest} o = no_comment content 33 (32 ∷ rest) o (λ e. omega arith)

time_no_comment : {content : List ℕ} {time : ℕ} {rest : List ℕ} → HasTime content time rest → IsComment content → ⊥
time_no_comment {content} {rest = rest} h = no_comment content 40 (h.seconds ++ 46 ∷ (h.fraction ++ 41 ∷ rest)) (time-cut h).is (λ e. omega arith)

time_no_operator : {content : List ℕ} {time : ℕ} {rest more : List ℕ} → HasTime content time rest → IsOperatorLine content more → ⊥
time_no_operator {rest = rest} {more = more} h o =
    let e : ◌≡◌ {A = ℕ} 40 33 = first_same 40 33 (h.seconds ++ 46 ∷ (h.fraction ++ 41 ∷ rest)) (32 ∷ more) (sym (time-cut h).is ∙ o) in
    omega arith

operator-one : {content a b : List ℕ} → IsOperatorLine content a → IsOperatorLine content b → a ≡ b
operator-one {a = a} {b = b} p q = append_cancel_left (codes "! ") a b (sym p ∙ q)

-- ---- the reading of each kind of line is unique

comment-only : (content : List ℕ) (b : Result ParsedLine LineFault) → IsComment content → IsRead content b → b ≡ Ok CommentLine
comment-only content b c (comment d) = refl
comment-only content b c (operator_action rest d o is) = absurd (operator_no_comment o c)
comment-only content b c (no_action rest o none) = absurd (operator_no_comment o c)
comment-only content b c (no_time other none) = absurd (other.no_comment c)
comment-only content b c (no_shape time rest t none) = absurd (time_no_comment t c)
comment-only content b c (frame_line time rest id text t s) = absurd (time_no_comment t c)

action-only : (content rest : List ℕ) (d : ActionValue) (b : Result ParsedLine LineFault) → IsOperatorLine content rest → IsActionText rest d → IsRead content b → b ≡ Ok (OperatorAction d)
action-only content rest d b o is (comment c) = absurd (operator_no_comment o c)
action-only content rest d b o is (operator_action more e p has) =
    let same = operator-one p o in
    let actions = action-one rest e d (rw same at has) is in
    ap (λ (x : ActionValue). Ok (OperatorAction x)) actions
action-only content rest d b o is (no_action more p none) =
    let same = operator-one o p in
    absurd (none d (rw same at is))
action-only content rest d b o is (no_time other none) = absurd (other.no_operator rest o)
action-only content rest d b o is (no_shape time more t none) = absurd (time_no_operator t o)
action-only content rest d b o is (frame_line time more id text t s) = absurd (time_no_operator t o)

no_action-only : (content rest : List ℕ) (b : Result ParsedLine LineFault) → IsOperatorLine content rest → ((d : ActionValue) → IsActionText rest d → ⊥) → IsRead content b → b ≡ Err Operator
no_action-only content rest b o never (comment c) = absurd (operator_no_comment o c)
no_action-only content rest b o never (operator_action more e p has) =
    let same = operator-one p o in
    absurd (never e (rw same at has))
no_action-only content rest b o never (no_action more p none) = refl
no_action-only content rest b o never (no_time other none) = absurd (other.no_operator rest o)
no_action-only content rest b o never (no_shape time more t none) = absurd (time_no_operator t o)
no_action-only content rest b o never (frame_line time more id text t s) = absurd (time_no_operator t o)

no_time-only : (content : List ℕ) (b : Result ParsedLine LineFault) → IsOtherLine content → ((time : ℕ) (rest : List ℕ) → HasTime content time rest → ⊥) → IsRead content b → b ≡ Err Time
no_time-only content b other never (comment c) = absurd (other.no_comment c)
no_time-only content b other never (operator_action rest e p has) = absurd (other.no_operator rest p)
no_time-only content b other never (no_action rest p none) = absurd (other.no_operator rest p)
no_time-only content b other never (no_time too none) = refl
no_time-only content b other never (no_shape time rest t none) = absurd (never time rest t)
no_time-only content b other never (frame_line time rest id text t s) = absurd (never time rest t)

no_shape-only : (content rest : List ℕ) (time : ℕ) (b : Result ParsedLine LineFault) → HasTime content time rest → ((id text : List ℕ) → HasShape rest id text → ⊥) → IsRead content b → b ≡ Err Shape
no_shape-only content rest time b h never (comment c) = absurd (time_no_comment h c)
no_shape-only content rest time b h never (operator_action more e p has) = absurd (time_no_operator h p)
no_shape-only content rest time b h never (no_action more p none) = absurd (time_no_operator h p)
no_shape-only content rest time b h never (no_time other none) = absurd (none time rest h)
no_shape-only content rest time b h never (no_shape at more t none) = refl
no_shape-only content rest time b h never (frame_line at more id text t s) =
    let same = (time-one t h).1 in
    absurd (never id text (rw same at s))

abbrev read_as : ℕ → List ℕ → List ℕ → Result ParsedLine LineFault
read_as time id text = frame_line_reading time id text

frame_line-only : (content rest id text : List ℕ) (time : ℕ) (b : Result ParsedLine LineFault) → HasTime content time rest → HasShape rest id text → IsRead content b → b ≡ frame_line_reading time id text
frame_line-only content rest id text time b h s (comment c) = absurd (time_no_comment h c)
frame_line-only content rest id text time b h s (operator_action more e p has) = absurd (time_no_operator h p)
frame_line-only content rest id text time b h s (no_action more p none) = absurd (time_no_operator h p)
frame_line-only content rest id text time b h s (no_time other none) = absurd (none time rest h)
frame_line-only content rest id text time b h s (no_shape at more t none) =
    let same = (time-one h t).1 in
    absurd (none id text (rw same at s))
frame_line-only content rest id text time b h s (frame_line at more word part t has) =
    let times = time-one t h in
    let parts = shape-one (subst (λ (x : List ℕ). HasShape x word part) times.1 has) s in
    ap (λ (x : ℕ). read_as x word part) times.0 ∙ ap (λ (x : List ℕ). read_as time x part) parts.0 ∙ ap (λ (x : List ℕ). read_as time id x) parts.1

read-one : (content : List ℕ) (a b : Result ParsedLine LineFault) → IsRead content a → IsRead content b → a ≡ b
read-one content a b (comment c) q = sym (comment-only content b c q)
read-one content a b (operator_action rest d o is) q = sym (action-only content rest d b o is q)
read-one content a b (no_action rest o none) q = sym (no_action-only content rest b o none q)
read-one content a b (no_time other none) q = sym (no_time-only content b other none q)
read-one content a b (no_shape time rest t none) q = sym (no_shape-only content rest time b t none q)
read-one content a b (frame_line time rest id text t s) q = sym (frame_line-only content rest id text time b t s q)

pub readings-one : ReadingsAreOne
readings-one line a b p q =
    let same = content-one line p.0 q.0 p.1 q.1 in
    read-one q.0 a b (rw same at p.2) q.2
