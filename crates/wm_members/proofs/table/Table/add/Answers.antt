-- A name that is there stays as it was; another goes behind all pairs.
use Rattle.std.proofs.Common.{ap, sym, refl, subst, ◌∙◌, ◌≡◌, is_some, false, true, None, ◌++◌, ◌∷◌, [], Option, cond, bytes_eq}
use Rattle.std.specs.Option.{option_copied}
use Rattle.indexmap.proofs.CallerLemmas.{insert_entry-new}
use Rattle.wm_members.specs.Tables.{found, added, named}
use Rattle.wm_members.proofs.Tables.{lookup-named, named-behind, added-there, added-new, is_some-copied, none-found}
use Rattle.wm_members.proofs.table.Table.add.Goals as goal

pub returns-then-is_some : goal.returns-then-is_some
returns-then-is_some g c =
    let here : is_some (found c.args.name.now c.args.self.now) ≡ true =
    sym (ap is_some (c.get.ensures.value ∙ lookup-named c.args.name c.self.inside.entries.entries ∙ ap (found c.args.name.now) c.self.view_is))
    ∙ is_some-copied c.get.result ∙ sym c.is_some.ensures ∙ c.if-is_some.true in
    record { added = sym (added-there c.args.name.now c.args.value c.args.self.now here) }

pub returns : goal.returns
returns g c =
    let absent = none-found c.get.result _ (sym c.is_some.ensures ∙ c.if-is_some.false) c.get.ensures.value in
    let new : is_some (found c.args.name.now (named c.self.inside.entries.entries)) ≡ false =
    ap is_some (sym (lookup-named c.args.name c.self.inside.entries.entries) ∙ absent) in
    record {
      added =
          ap named (c.in_ok-insert.ensures.entries ∙ insert_entry-new (λ x y. bytes_eq x.now y.now) c.self.inside.entries c.args.name c.args.value absent)
          ∙ named-behind c.self.inside.entries.entries (c.args.name, c.args.value)
          ∙ sym (added-new c.args.name.now c.args.value (named c.self.inside.entries.entries) new)
          ∙ ap (added c.args.name.now c.args.value) c.self.view_is;
    }
