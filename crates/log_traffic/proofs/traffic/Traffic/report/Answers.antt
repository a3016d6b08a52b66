use Rattle.std.proofs.Common.{◌≡◌, refl, ap, sym, subst, ◌∙◌, map, rules}
use Rattle.std.specs.Prelude.{All, sum_by}
use Rattle.log_traffic.specs.declared.report.Share.{Share}
use Rattle.log_traffic.specs.Counted.{counts_in}
use Rattle.log_traffic.specs.Shares.{share_of, senders}
use Rattle.log_traffic.proofs.Senders.{shares-own, sum-shares}
use Rattle.log_traffic.proofs.traffic.Traffic.report.Goals as goal

pub returns : goal.returns
returns c =
    let counts = c.args.self.now.sources.counts in
    let microseconds = c.saturating_sub-microseconds.result in
    let shares : c.in_ok-shares.field-0.items ≡ map (share_of microseconds counts) (senders counts) = search rules in
    record {
      total = refl;
      sources = shares ∙ ap (λ m. map (share_of m counts) (senders counts)) (search rules);
      shares = subst (λ items. All (λ (share : Share). share.counts ≡ counts_in counts share.source) items) (sym shares)
          (shares-own microseconds counts (senders counts));
      sums = λ few. ap (sum_by (λ (share : Share). share.counts.frames)) shares ∙ sum-shares microseconds counts ∙ c.args.self.now.sources.sums few;
      span = search rules;
      load = search rules;
      whole = search rules;
      broken = search rules;
      unended = search rules;
      seen_twice = search rules;
    }
