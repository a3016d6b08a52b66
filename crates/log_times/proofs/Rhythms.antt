-- Gaps between messages.
use Rattle.std.proofs.Common.{◌≡◌, ◌+◌, ◌-◌, ◌<◌, ◌≤◌, List, [], ◌∷◌, length, sym, ap, subst, ◌∙◌, refl, arith, ◌^◌}
use Rattle.std.specs.Prelude.{All, Option, Some, None, MatchOption, nat_le, min, cond, filter}
use Rattle.std.proofs.lemmas.Bool.{cond_both, cond-true, leb-true, leb-false, lt-ltb}
use Rattle.std.proofs.lemmas.List.Elements.{All-append, All-cons, All-nil}
use Rattle.log_traffic.specs.declared.moment.Moment.{Moment}
use Rattle.log_times.specs.declared.rhythm.Gap.{Gap}
use Rattle.log_times.specs.declared.rhythm.Rhythm.{Rhythm}
use Rattle.log_times.specs.Rhythms.{length_of, longer, is_gap, gaps_of, times_between, IsLongest, HasTaken}

-- a gap that is shorter than another one, or as long, and follows all of these
shorter_all : (gaps : List Gap) (longest gap : Gap) → IsLongest gaps longest → length_of longest < length_of gap → All (λ other. length_of other < length_of gap) gaps
shorter_all gaps longest gap long less =
    subst (λ all. All (λ (other : Gap). length_of other < length_of gap) all) (sym long.parts)
    (All-append (λ (other : Gap). length_of other < length_of gap) long.later (longest ∷ long.earlier)
    (λ k d within. omega (arith, less, long.not_longer k d within))
    (All-cons (λ (other : Gap). length_of other < length_of gap) longest long.earlier less
    (λ k d within. omega (arith, less, long.shorter k d within))))

longest_by : (gaps : List Gap) (longest gap : Gap) → IsLongest gaps longest
    → IsLongest (gap ∷ gaps) (cond (nat_le (length_of gap) (length_of longest)) longest gap)
longest_by gaps longest gap long =
    cond_both (nat_le (length_of gap) (length_of longest)) longest gap (IsLongest (gap ∷ gaps))
    (λ is. record {
      later = gap ∷ long.later;
      earlier = long.earlier;
      parts = ap (λ rest. gap ∷ rest) long.parts;
      not_longer = All-cons (λ (other : Gap). length_of other ≤ length_of longest) gap long.later (leb-true (length_of gap) (length_of longest) is) long.not_longer;
      shorter = long.shorter;
    })
    (λ is_not. record {
      later = [];
      earlier = gaps;
      parts = refl;
      not_longer = All-nil (λ (other : Gap). length_of other ≤ length_of gap);
      shorter = shorter_all gaps longest gap long (leb-false (length_of gap) (length_of longest) is_not);
    })

pub longest_more : (gaps : List Gap) (before : Option Gap) (gap : Gap) → MatchOption before (gaps ≡ []) (IsLongest gaps)
    → IsLongest (gap ∷ gaps) (longer before gap)
longest_more gaps None gap none = record {
  later = [];
  earlier = gaps;
  parts = refl;
  not_longer = All-nil (λ (other : Gap). length_of other ≤ length_of gap);
  shorter = subst (λ all. All (λ (other : Gap). length_of other < length_of gap) all) (sym none) (All-nil (λ (other : Gap). length_of other < length_of gap));
}
longest_more gaps (Some longest) gap long = longest_by gaps longest gap long

-- the gaps with one more message
between_more : (messages before : List Moment) (last at : Moment) → messages ≡ last ∷ before
    → times_between (at ∷ messages) ≡ record { from = last; to = at } ∷ times_between messages
between_more messages before last at parts =
    ap (λ all. times_between (at ∷ all)) parts ∙ ap (λ all. record { from = last; to = at } ∷ times_between all) (sym parts)

pub gaps_more : (messages before : List Moment) (last at : Moment) → messages ≡ last ∷ before
    → 3000000 < at.time - last.time → gaps_of (at ∷ messages) ≡ record { from = last; to = at } ∷ gaps_of messages
gaps_more messages before last at parts is =
    ap (filter is_gap) (between_more messages before last at parts)
    ∙ cond-true (is_gap (record { from = last; to = at })) (record { from = last; to = at } ∷ gaps_of messages) (gaps_of messages) (lt-ltb 3000000 (at.time - last.time) is)

pub taken_more : (messages : List Moment) (at : Moment) (old new : Rhythm) → HasTaken messages old → 3000000 < at.time - old.last.time
    → new.last ≡ at → new.count ≡ min (old.count + 1) (2 ^ 64 - 1) → new.longest ≡ Some (longer old.longest (record { from = old.last; to = at }))
    → HasTaken (at ∷ messages) new
taken_more messages at old new taken is last count longest =
    let gaps = gaps_more messages taken.before old.last at taken.last is in
    record {
      before = messages;
      last = ap (λ first. first ∷ messages) (sym last);
      count = omega (arith, count, taken.count, ap length gaps);
      longest = subst (λ told. MatchOption told (gaps_of (at ∷ messages) ≡ []) (IsLongest (gaps_of (at ∷ messages)))) (sym longest)
          (subst (λ all. IsLongest all (longer old.longest (record { from = old.last; to = at }))) (sym gaps)
          (longest_more (gaps_of messages) old.longest (record { from = old.last; to = at }) taken.longest));
    }
