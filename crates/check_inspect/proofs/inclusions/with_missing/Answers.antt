use Rattle.std.proofs.Common.{List, ◌++◌, map, ap, subst, sym, ◌∙◌}
use Rattle.vt_stores.specs.Stores.{Objects, AreNamed, by_rising_id}
use Rattle.check_inspect.specs.declared.finding.ReferenceAt.{ReferenceAt}
use Rattle.check_inspect.specs.Missing.{AreMissingIds, ClosesObjects, empty_at}
use Rattle.check_inspect.proofs.lemmas.Closed.{absent, named_empty, closes}
use Rattle.check_inspect.proofs.lemmas.Commands.{if_ok}
use Rattle.check_inspect.proofs.inclusions.with_missing.Goals as goal

pub from_vec-requires : goal.from_vec-requires
from_vec-requires c =
    let objects = c.args.objects.now in
    let ids = c.in_ok-ids.ids.keys in
    let are = subst (λ (rs : List ReferenceAt). AreMissingIds rs ids) c.requires.absent c.in_ok-ids.ensures in
    let made = c.in_ok-put_empty.ensures ∙ ap (λ (l : Objects). l ++ map empty_at ids) c.in_ok-entries.ensures in
    subst AreNamed (sym made) (named_empty objects ids c.requires.stored.named are.distinct (absent objects ids are))

pub returns-clause-closes : goal.returns-clause-closes
returns-clause-closes c =
    let objects = c.args.objects.now in
    let ids = c.in_ok-ids.ids.keys in
    let are = subst (λ (rs : List ReferenceAt). AreMissingIds rs ids) c.requires.absent c.in_ok-ids.ensures in
    let made = c.in_ok-put_empty.ensures ∙ ap (λ (l : Objects). l ++ map empty_at ids) c.in_ok-entries.ensures in
    if_ok c.from_vec.result c.from_vec.ensures.made (λ store is. subst (ClosesObjects objects) (sym (is ∙ ap by_rising_id made)) (closes objects ids are))
