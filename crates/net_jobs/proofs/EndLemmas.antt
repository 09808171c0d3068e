-- The whole part of a session.
use Rattle.std.proofs.Common.{◌≡◌, ◌+◌, ◌<◌, ◌≤◌, ◌^◌, List, [], ◌∷◌, ◌++◌, length, map, refl, sym, ap, ◌∙◌, arith}
use Rattle.std.specs.List.{range_with_len}
use Rattle.std.proofs.lemmas.List.{length-map}
use Rattle.edge_bits.specs.declared.limits.TheConstants.{MOST_ROWS}
use Rattle.job_text.specs.declared.job.Command.{Command}
use Rattle.job_text.specs.Histories.{NamedRegister, HistoryLine, IsScript}
use Rattle.dd_session.specs.Sessions.{Managed, Seen}
use Rattle.net_jobs.specs.declared.registers.Assigned.{Assigned}
use Rattle.net_jobs.specs.declared.section.Script.{Script}
use Rattle.net_jobs.specs.Sections.{CanPlay, PlaysSection}
use Rattle.net_jobs.specs.Saying.{DropsTheRest, HasSaid, register_of}
use Rattle.net_jobs.proofs.LoopLemmas.{Through, entries_said}
use Rattle.net_jobs.proofs.StandsLemmas.{generation_of}

-- the generations of the registers are those of their names
generations-of : (commands : List Command) (names : List Assigned) → map (λ (r : NamedRegister). r.name.generation) (map (register_of commands) names) ≡ map generation_of names
generations-of commands [] = refl
generations-of commands (a ∷ names) = ap (λ xs. a.name.generation ∷ xs) (generations-of commands names)

module _ (old mid new : Seen) (commands : List Command) (script end : Script) (through : Through old mid commands script)
    (drops_rest : (start : Seen) (said : List HistoryLine) → HasSaid start mid commands script.names.items script.lines.items said → DropsTheRest start new commands end said) where
  abbrev said : List HistoryLine
  said = through.0

  abbrev stands : HasSaid old mid commands script.names.items script.lines.items said
  stands = through.1

  abbrev rest : DropsTheRest old new commands end said
  rest = drops_rest old said stands

  is_script : IsScript old.adds commands (said ++ rest.dropped)
  is_script = record {
    said = said;
    dropped = rest.dropped;
    parts = refl;
    in_order = through.2.in_order;
    goes_on = through.2.goes_on;
    to_the_end = through.2.to_the_end;
    generations = ap (map (λ (r : NamedRegister). r.name.generation)) stands.registers ∙ generations-of commands script.names.items ∙ stands.generations
        ∙ ap (range_with_len old.adds) (sym (ap length stands.registers ∙ length-map script.names.items (register_of commands)));
    drops_the_rest = rest.rest;
  }

  pub plays_section : PlaysSection commands old new end.lines.items
  plays_section = record {
    lines = said ++ rest.dropped;
    gained = rest.stands.gained;
    own = rest.stands.own;
    told = rest.stands.told;
    says = is_script;
    full = rest.stands.full;
    rises = rest.stands.rises;
    texts = rest.stands.texts;
    manager_is = rest.stands.manager_is;
    number_is = rest.stands.number_is;
  }

-- how many rows and entries there are where the drops begin
pub rows_through : (m : Managed) (old mid : Seen) (commands : List Command) (script : Script) → CanPlay m commands old → Through old mid commands script → length script.names.items ≤ length commands → length mid.rows < MOST_ROWS
rows_through m old mid commands script can through few = omega (arith, can.few, through.1.few, few)

pub entries_through : (m : Managed) (old mid : Seen) (commands : List Command) (script : Script) → CanPlay m commands old → Through old mid commands script → length mid.entries ≤ 2 ^ 47 + MOST_ROWS
entries_through m old mid commands script can through = omega (arith, can.few, can.calls, entries_said old mid commands script through.0 through.1, through.3)
