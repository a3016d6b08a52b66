use Rattle.std.proofs.Common.{◌≡◌, ℕ, ◌<◌, length, true, false, subst, rules}
use Rattle.std.proofs.lemmas.Bool.{false≢true}
use Rattle.std.specs.BTreeSet.{BTreeSet, contains}
use Rattle.std.specs.Ordering.{nat_cmp, is_gt}
use Rattle.vt_names.proofs.IndexAfterClaim.{holder-none, holder-past, holder-some}
use Rattle.vt_names.proofs.holders.Holders.get.Goals as goal

pub returns-then-len-from : goal.returns-then-len-from
returns-then-len-from c addresses are =
    let past = holder-past c.args.self.now.names.items addresses c.from.result are (search rules) (search rules) in
    search rules

pub returns-in_err-raw : goal.returns-in_err-raw
returns-in_err-raw c addresses are =
    let inside : c.from-2.result < length c.args.self.now.names.items = search rules in
    let no_first = subst (λ (s : BTreeSet ℕ). 0 < length s.keys → ⊥) c.index.ensures (λ h. false≢true (c.in_err-raw.ensures.variant.1 h)) in
    let none = holder-none c.args.self.now.names.items addresses c.from-2.result c.index.result.now are inside (search rules) no_first in
    search rules

pub returns : goal.returns
returns c addresses are =
    let inside : c.from-2.result < length c.args.self.now.names.items = search rules in
    let has = subst (λ (s : BTreeSet ℕ). contains nat_cmp s c.in_ok-raw.raw.now ≡ true) c.index.ensures c.in_ok-raw.ensures.member in
    let least = subst (λ (s : BTreeSet ℕ). (n : ℕ) → contains nat_cmp s n ≡ true → is_gt (nat_cmp c.in_ok-raw.raw.now n) ≡ false) c.index.ensures c.in_ok-raw.ensures.least in
    let some = holder-some c.args.self.now.names.items addresses c.from-2.result c.in_ok-raw.raw.now c.index.result.now are inside (search rules) has least in
    search rules
