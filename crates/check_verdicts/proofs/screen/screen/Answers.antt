use Rattle.std.proofs.Common.{◌≡◌, ℕ, inr, subst, Vec, Global, rules}
use Rattle.check_verdicts.specs.Texts.{HasNoMask, HasNoScreen, IsScreenOfObjects, IsScreenOfPool}
use Rattle.check_verdicts.proofs.Results.{some_as, none_as}
use Rattle.check_verdicts.proofs.screen.screen.Goals as goal

pub returns-clause-some : goal.returns-clause-some
returns-clause-some c =
    let pool = c.in-Ok-judge.pool in
    let address : c.in-Ok.address ≡ c.args.address = search rules in
    let mask : c.from_raw.result ≡ c.args.mask = search rules in
    some_as c.drawn.result
    (λ (text : Vec ℕ Global). IsScreenOfObjects pool c.in-Ok.address c.from_raw.result text.items)
    (λ (text : Vec ℕ Global). IsScreenOfPool c.args.bytes.now c.args.address c.args.mask text.items)
    (λ text drawn. record {
      objects = pool;
      accepted = c.in-Ok-judge.ensures.accepted;
      screen = subst (λ (a : ℕ). IsScreenOfObjects pool a c.args.mask text.items) address
          (subst (λ (m : ℕ). IsScreenOfObjects pool c.in-Ok.address m text.items) mask drawn);
    })
    c.drawn.ensures.some

pub returns-clause-none : goal.returns-clause-none
returns-clause-none c =
    let pool = c.in-Ok-judge.pool in
    let mask : c.from_raw.result ≡ c.args.mask = search rules in
    none_as c.drawn.result (HasNoMask pool c.from_raw.result) (HasNoScreen c.args.bytes.now c.args.address c.args.mask)
    (λ none. inr (inr (record {
      objects = pool;
      accepted = c.in-Ok-judge.ensures.accepted;
      refused = subst (HasNoMask pool) mask none;
    })))
    c.drawn.ensures.none
