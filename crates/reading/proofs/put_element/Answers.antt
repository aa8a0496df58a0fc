-- `reading::put_element` meets its contract: by what the element means, what is left after it ends and writes as it does with it.
use Rattle.std.specs.Prelude.{Ok, Result}
use Rattle.rules.specs.declared.Refusal.{Refusal}
use Rattle.uses.specs.declared.Use.{Use}
use mathlib.Core.Path.{◌≡◌, refl, ◌∙◌, ap, subst}
use Rattle.tables.specs.Entries.{entries_of}
use Rattle.uses.specs.Meant.{GoodUse, GoodMeaning}
use Rattle.uses.specs.Meanings.{GoodScopes, GoodScopesOf}
use Rattle.uses.proofs.Remembering.{span_known}
use Rattle.reading.proofs.Passing.{handed_on}
use Rattle.reading.proofs.Putting.{at_fits, puts_as, puts_nothing, puts_refused, puts_after, puts_items}
use Rattle.reading.proofs.put_element.Goals as goal
use Rattle.reading.proofs.put_element.Goals.{In-Ok, In-Ok-items}

held : (c : In-Ok) → GoodUse (entries_of c.args.t.now) c.args.f.now c.in-Ok.u
held c = subst (GoodMeaning (entries_of c.args.t.now) c.args.f.now) c.in-Ok.is (c.use_of-m.ensures.held c.args.f.now c.requires.1)

scoped : (c : In-Ok) → GoodScopes (entries_of c.args.t.now) c.in-Ok.u c.use_of-m.result.scopes
scoped c =
    subst (λ (x : Result Use Refusal). GoodScopesOf (entries_of c.args.t.now) x c.use_of-m.result.scopes) c.in-Ok.is (c.use_of-m.ensures.scoped c.args.f.now c.requires.1)

pub returns-in_err-items : goal.returns-in_err-items
returns-in_err-items c = puts_as c.in_err-items.was (handed_on c.from_residual.result c.from_residual.ensures.1) (puts_nothing _)

pub returns-in-Err : goal.returns-in-Err
returns-in-Err c = puts_as c.in_ok-items.was refl (puts_refused c.requires.1 c.use_of-m.ensures _ _ c.in-Err.is)

pub remember-requires : goal.remember-requires
remember-requires c = (c.requires.0, span_known (entries_of c.args.t.now) c.args.f.now c.in-Ok.u (held (goal.at.remember-requires c).In-Ok), c.requires.2)

-- The items so far end at a place.
standing : (c : In-Ok-items) → c.args.state ≡ Ok (Ok c.in-Ok-items.p)
standing c = c.in_ok-items.was ∙ ap Ok c.in-Ok-items.is

pub put_use-requires : goal.put_use-requires
put_use-requires c = (
  c.requires.0,
  held (goal.at.put_use-requires c).In-Ok,
  scoped (goal.at.put_use-requires c).In-Ok,
  c.requires.3,
  (at_fits (standing (goal.at.put_use-requires c).In-Ok-items) c.requires.4.0, c.requires.4.1),
)

pub returns-in-Err-items : goal.returns-in-Err-items
returns-in-Err-items c = let e = c.in_ok-items.was ∙ ap Ok c.in-Err-items.is in puts_as e e (puts_after c.requires.1 c.use_of-m.ensures c.in-Ok.is c.remember.ensures _)

pub returns-in-Ok-items : goal.returns-in-Ok-items
returns-in-Ok-items c =
    let e = standing (goal.at.returns-in-Ok-items c).In-Ok-items in
    puts_as e refl
    (puts_items c.requires.1 c.use_of-m.ensures c.in-Ok.is c.remember.ensures _ _ c.put_use.ensures c.requires.3 (at_fits e c.requires.4.0) c.requires.4.1)
