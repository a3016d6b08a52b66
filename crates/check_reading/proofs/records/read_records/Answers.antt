use Rattle.std.proofs.Common.{◌≡◌, ℕ, ◌+◌, ◌≤◌, Some, List, [], ◌∷◌, ◌++◌, drop, length, map, true, false, sym, ap, refl, subst, ◌∙◌, arith, rules}
use Rattle.std.proofs.lemmas.List.{append-nil, map-append, drop-drop, length-drop, length-append, with_items_is, drop_all}
use Rattle.std.specs.Prelude.{IsTrue}
use Rattle.vt_kinds.specs.Records.{seen, record_of}
use Rattle.vt_records.specs.RecordFaults.{IsStop, fault_at}
use Rattle.check_reading.specs.Passed.{passed_size, passed_record}
use Rattle.check_reading.specs.Readings.{found_at, wants_memory, is_mendable, mended_at, EndsReading}
use Rattle.check_reading.proofs.lemmas.Readings.{drop_mended, length_mended, reads_record, reads_mended, passes_record, reads_to_fault, reads_to_end}
use Rattle.check_reading.proofs.records.read_records.Goals as goal
use Rattle.check_reading.proofs.records.read_records.Goals.{then-left-eq0-via-then-left-eq0, then-left-eq0-via-else-left-eq0+then-not-is_mendable}

pub loop-at-preserved-in-Ok : goal.loop-at-preserved-in-Ok
loop-at-preserved-in-Ok c =
    let all = c.loop-at.mended.items in
    let at = c.loop-at.at in
    let r = c.in-Ok.record in
    let front = record_of r.id (seen r.object) in
    let size : r.size ≡ length front = c.in-Ok.ensures.size in
    let rest : c.rest_of.result.now ≡ drop at all = search rules in
    let parts : drop at all ≡ front ++ drop r.size (drop at all) =
    subst (λ (l : List ℕ). l ≡ front ++ drop r.size l) rest c.in-Ok.ensures.parts in
    let long : length (drop at all) ≡ length front + length (drop r.size (drop at all)) = ap length parts ∙ length-append front (drop r.size (drop at all)) in
    let left = length-drop at all in
    let test = c.loop-at-test.true in
    let len : c.len.result ≡ length all = search rules in
    record {
      inside = omega arith;
      reading = reads_record c.args.bytes.now (drop at all) (drop (at + r.size) all) at (at + r.size) c.loop-at.left (map found_at c.loop-at.found.items)
          (map found_at c.push.new.self.items) c.loop-at.faults.items c.loop-at.passed.items r.id (seen r.object) c.loop-at.invariant.reading c.in-Ok.ensures.record
          (parts ∙ ap (λ (l : List ℕ). front ++ l) (drop-drop r.size at all)) (ap (λ (n : ℕ). at + n) size)
          (ap (λ (l : List _). map found_at l) c.in_ok-push-in-Ok.ensures.items ∙ map-append found_at c.loop-at.found.items _);
    }

pub returns-then-left-eq0 : goal.returns-then-left-eq0
returns-then-left-eq0 c =
    let all = c.loop-at.mended.items in
    let at = c.loop-at.at in
    let rest : c.rest_of.result.now ≡ drop at all = search rules in
    let stop : IsStop (drop at all) c.in-Err-2.fault = subst (λ (l : List ℕ). IsStop l c.in-Err-2.fault) rest c.in-Err-2.ensures.fault in
    let len : c.len.result ≡ length all = search rules in
    let left = length-drop at all in
    let test = c.loop-at-test.true in
    let memory : wants_memory c.in-Err-2.fault ≡ false = search rules in
    let ends : EndsReading c.loop-at.left (drop at all) c.in-Err-2.fault = record {
      no_memory = memory;
      not_mended = λ can. elim c.then-left-eq0.branch as (λ _. c.loop-at.left ≡ 0) [
        | then-left-eq0-via-then-left-eq0 w ↦ w.if-left-eq0.true
        | then-left-eq0-via-else-left-eq0+then-not-is_mendable w ↦
            let cannot : is_mendable c.in-Err-2.fault ≡ false = search rules in
            let never : true ≡ false = sym can ∙ cannot in
            absurd cc
      ];
      not_passed = search rules;
    } in
    let whole = reads_to_fault c.args.bytes.now (drop at all) at c.loop-at.left (map found_at c.loop-at.found.items) c.loop-at.faults.items c.loop-at.passed.items c.in-Err-2.fault
    c.loop-at.invariant.reading (omega arith) stop ends in
    let faults : c.push-in-Err-2.new.self.items ≡ c.loop-at.faults.items ++ fault_at c.in-Err-2.fault at ∷ [] = search rules in
    record {
      steps = whole.all;
      reading = whole.reading;
      found = sym (append-nil (map found_at c.loop-at.found.items)) ∙ sym whole.found_is;
      faults = faults ∙ sym whole.faults_is;
      passed = sym (append-nil c.loop-at.passed.items) ∙ sym whole.passed_is;
      unread = sym whole.unread_is;
    }

pub loop-at-preserved-in-Some : goal.loop-at-preserved-in-Some
loop-at-preserved-in-Some c =
    let all = c.loop-at.mended.items in
    let at = c.loop-at.at in
    let size = c.in-Some.size in
    let fault = c.in-Err-2.fault in
    let rest : c.rest_of.result.now ≡ drop at all = search rules in
    let rest_again : c.rest_of-in-Err-2.result.now ≡ drop at all = search rules in
    let rest_of_passed : c.rest_of-in-Some.result.now ≡ drop at all = search rules in
    let stop : IsStop (drop at all) fault = subst (λ (l : List ℕ). IsStop l fault) rest c.in-Err-2.ensures.fault in
    let same : c.in-Err.fault ≡ fault = search rules in
    let sized : passed_size fault (drop at all) ≡ Some size =
    ap (λ f. passed_size f (drop at all)) (sym same)
    ∙ subst (λ (l : List ℕ). passed_size c.in-Err.fault l ≡ Some size) rest_again (sym c.passed_size.ensures.size ∙ c.in-Some.is) in
    let whole : size ≤ length (drop at all) = search rules in
    let left = length-drop at all in
    let len : c.len.result ≡ length all = search rules in
    let test = c.loop-at-test.true in
    let faults : c.push-in-Err-2.new.self.items ≡ c.loop-at.faults.items ++ fault_at fault at ∷ [] = search rules in
    let passed : c.push-in-Some.new.self.items ≡ c.loop-at.passed.items ++ passed_record (drop at all) at ∷ [] = search rules in
    record {
      inside = omega arith;
      reading = passes_record c.args.bytes.now (drop at all) (drop (at + size) all) at c.loop-at.left size (map found_at c.loop-at.found.items) c.loop-at.faults.items
          c.push-in-Err-2.new.self.items c.loop-at.passed.items c.push-in-Some.new.self.items fault c.loop-at.invariant.reading stop sized
          (sym (drop-drop size at all)) faults passed;
    }

pub loop-at-preserved : goal.loop-at-preserved
loop-at-preserved c =
    let all = c.loop-at.mended.items in
    let at = c.loop-at.at in
    let fault = c.in-Err-2.fault in
    let rest : c.rest_of.result.now ≡ drop at all = search rules in
    let stop : IsStop (drop at all) fault = subst (λ (l : List ℕ). IsStop l fault) rest c.in-Err-2.ensures.fault in
    let len : c.len.result ≡ length all = search rules in
    let test = c.loop-at-test.true in
    let made : c.mend.new.bytes ≡ mended_at at fault all = search rules in
    let long : length c.mend.new.bytes ≡ c.loop-at.mended.len = ap length made ∙ length_mended at fault all ∙ search rules in
    let now = with_items_is c.loop-at.mended c.mend.new.bytes long ∙ made in
    let faults : c.push-in-Err-2.new.self.items ≡ c.loop-at.faults.items ++ fault_at fault at ∷ [] = search rules in
    let other : c.loop-at.left ≡ 0 → ⊥ = c.if-left-eq0.false in
    let can : IsTrue (is_mendable fault) = search rules in
    record {
      inside = let same = ap length now ∙ length_mended at fault all in omega arith;
      reading = reads_mended c.args.bytes.now (drop at all) _ at c.loop-at.left _ (map found_at c.loop-at.found.items) c.loop-at.faults.items c.push-in-Err-2.new.self.items c.loop-at.passed.items fault
          c.loop-at.invariant.reading (omega arith) refl can stop (ap (drop at) now ∙ drop_mended all at fault) faults;
    }

pub returns : goal.returns
returns c =
    let all = c.loop-at.mended.items in
    let len : c.len.result ≡ length all = search rules in
    let end = c.loop-at-test.false in
    let whole = reads_to_end c.args.bytes.now (drop c.loop-at.at all) c.loop-at.at c.loop-at.left (map found_at c.loop-at.found.items) c.loop-at.faults.items c.loop-at.passed.items
    c.loop-at.invariant.reading (drop_all c.loop-at.at all (omega arith)) in
    record {
      steps = whole.all;
      reading = whole.reading;
      found = sym (append-nil (map found_at c.loop-at.found.items)) ∙ sym whole.found_is;
      faults = sym (append-nil c.loop-at.faults.items) ∙ sym whole.faults_is;
      passed = sym (append-nil c.loop-at.passed.items) ∙ sym whole.passed_is;
      unread = sym whole.unread_is;
    }
