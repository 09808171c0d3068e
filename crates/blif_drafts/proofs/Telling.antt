-- What is told of drafts, part by part, is told of their models.
use Rattle.std.proofs.Common.{◌≡◌, ℕ, List, [], None, get_or, length, ap, sym, ◌∙◌, subst, true}
use Rattle.std.specs.Prelude.{All}
use Rattle.job_words.specs.Text.{Word}
use Rattle.blif_models.specs.Models.{Model}
use Rattle.blif_models.specs.Numberings.{words_at}
use Rattle.blif_drafts.specs.declared.drafts.Draft.{Draft}
use Rattle.blif_formals.specs.declared.formals.Callees.{Callees}
use Rattle.blif_formals.specs.declared.interface.Interface.{Interface}
use Rattle.blif_drafts.specs.declared.parts.Parts.{Parts}
use Rattle.blif_formals.specs.Definitions.{AreInterfacesOf, ports_at}
use Rattle.blif_drafts.specs.Drafts.{AreDraftsOf, AreItemsOf}
use Rattle.blif_formals.specs.Joining.{IsInterface}
use Rattle.blif_drafts.specs.Parts.{ArePartsOf}
use Rattle.blif_formals.specs.Titles.{title_of}
use Rattle.blif_formals.specs.Words.{HaveOneNumber}
use Rattle.blif_drafts.proofs.Judging.{AreTold}
use Rattle.blif_drafts.proofs.OfDrafts.{calls_are, calls_in, faces_are, have_interfaces, headings_are, items_are, joined_are, joined_in, many_calls, many_interfaces, many_items, many_names, one_number, ports_are}

pub told_of : (titles : List Word) (models : List Model) (drafts : List Draft) (all : AreDraftsOf titles models drafts) (parts : Parts) (of : ArePartsOf drafts parts) (callees : Callees) → callees.names.now ≡ parts.names.items
    → callees.interfaces.now ≡ parts.interfaces.items → length callees.titles.now ≡ length titles → ((n : ℕ) → get_or callees.titles.now n None ≡ title_of parts.headings.items n)
    → AreTold titles models callees parts.headings.items parts.items.items parts.calls.items parts.joined.items
told_of titles models drafts all parts of callees names faces many titled =
    let are = all.drafts_are in
    let words = parts.names.items in
    record {
      named = record { one_number = all.one_number; headings_are = headings_are titles models drafts are parts of; titles_are = titled; calls_are = calls_are titles models drafts are parts of };
      words_are = joined_are titles models drafts are parts of;
      have = subst (λ (ws : List (List Word)). AreInterfacesOf models (λ m. true) ws callees.interfaces.now) (sym names)
          (subst (λ (is : List Interface). AreInterfacesOf models (λ m. true) words is) (sym faces) (have_interfaces titles models drafts are parts of));
      faces = subst (All IsInterface) (sym faces) (faces_are titles models drafts are parts of);
      ports = λ m lt. ap (λ (is : List Interface). length (ports_at is m)) faces ∙ ports_are titles models drafts are parts of m lt ∙ ap (λ (ws : List (List Word)). length (words_at ws m)) (sym names);
      many_names = ap length names ∙ many_names titles models drafts are parts of;
      many_faces = ap length faces ∙ many_interfaces titles models drafts are parts of;
      many_calls = many_calls titles models drafts are parts of;
      many_items = many_items titles models drafts are parts of;
      many_titles = many;
      one_number = λ m model at. subst (λ (ws : List (List Word)). HaveOneNumber (words_at ws m)) (sym names) (one_number titles models drafts are parts of m model at);
      items_are = λ m model at. subst (λ (ws : List (List Word)). AreItemsOf (words_at ws m) model.items (get_or parts.items.items m [])) (sym names) (items_are titles models drafts are parts of m model at);
      calls_in = λ m model at. calls_in titles models drafts are parts of m model at;
      joined_in = λ m model at. joined_in titles models drafts are parts of m model at;
      rising = all.rising;
    }
