use Rattle.std.proofs.Common.{◌≡◌, find, sym, ap, ◌∙◌}
use Rattle.std.specs.Prelude.{option_copied}
use Rattle.sqlite_trees.specs.View.{IsClean}
use Rattle.sound_tables.specs.Unsound.{is_meta_object, objects_of}
use Rattle.sound_tables.proofs.UnsoundLemmas.{finds_by, finds_none}
use Rattle.sound_tables.proofs.unsound.find_meta.Given.{Over}
use Rattle.sound_tables.proofs.unsound.find_meta.Goals.{After-meta_among}
use Rattle.sound_tables.proofs.unsound.find_meta.Goals as goal

-- what is found among the objects that were read is found among those that the store lists
among : (g : Over) (c : After-meta_among g) → IsClean (g.S.Store.view c.args.store.now)
    → find is_meta_object (objects_of (g.S.Store.view c.args.store.now)) ≡ option_copied c.meta_among.result
among g c clean = sym (ap (find is_meta_object) (c.deref.ensures.value ∙ c.in_ok-objects.ensures clean))
    ∙ sym c.meta_among.ensures

pub returns-in-Some : goal.returns-in-Some
returns-in-Some g c clean =
    let found = among g (goal.at.returns-in-Some g c).After-meta_among clean in
    finds_by (g.S.Store.view c.args.store.now) c.in-Some.object.now c.tree_of.result
    (found ∙ ap option_copied c.in-Some.is) c.tree_of.ensures

pub returns : goal.returns
returns g c clean =
    let found = among g (goal.at.returns g c).After-meta_among clean in
    finds_none (g.S.Store.view c.args.store.now) (found ∙ ap option_copied c.in-None.is)
