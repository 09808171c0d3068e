use Rattle.std.proofs.Common.{◌++◌, ◌∷◌, [], List, ap, sym, ◌∙◌, subst}
use Rattle.blif_drafts.specs.declared.drafts.Draft.{Draft}
use Rattle.blif_formals.specs.declared.interface.Interface.{Interface}
use Rattle.blif_drafts.specs.Parts.{AreInterfacesBy, IsInterfaceBy, names_by}
use Rattle.blif_drafts.proofs.PartBy.{one_interface, one_part}
use Rattle.blif_drafts.proofs.parts.Parts.add.Goals as goal

pub returns : goal.returns
returns c = λ before are.
    let draft = c.args.draft in
    let old = c.args.self.now in
    let interface = c.in_ok-interface.interface in
    let told = c.in_ok-interface.ensures in
    let is : IsInterfaceBy draft interface = record { inputs = told.inputs ∙ ap names_by c.as_slice.ensures; outputs = told.outputs; many = told.many; is = told.interface } in
    record {
      headings = one_part (λ (d : Draft). d.heading) before draft old.headings.items c.push.new.self.items c.in_ok-push.ensures.items are.headings;
      names = one_part (λ (d : Draft). d.names) before draft old.names.items c.push-2.new.self.items c.in_ok-push-2.ensures.items are.names;
      interfaces =
          subst (AreInterfacesBy (before ++ draft ∷ [])) (sym {A = List Interface} c.in_ok-push-3.ensures.items) (one_interface before old.interfaces.items draft interface are.interfaces is);
      inputs = one_part (λ (d : Draft). d.inputs) before draft old.inputs.items c.push-4.new.self.items c.in_ok-push-4.ensures.items are.inputs;
      added = one_part (λ (d : Draft). d.added) before draft old.added.items c.push-5.new.self.items c.in_ok-push-5.ensures.items are.added;
      items = one_part (λ (d : Draft). d.items) before draft old.items.items c.push-6.new.self.items c.in_ok-push-6.ensures.items are.items;
      calls = one_part (λ (d : Draft). d.calls) before draft old.calls.items c.push-7.new.self.items c.in_ok-push-7.ensures.items are.calls;
      joined = one_part (λ (d : Draft). d.joined) before draft old.joined.items c.push-8.new.self.items c.in_ok-push-8.ensures.items are.joined;
    }
