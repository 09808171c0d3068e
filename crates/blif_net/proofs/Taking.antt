-- Lines are taken, or are not, by what is told of drafts and kept of rows.
use Rattle.std.proofs.Common.{◌≡◌, ◌⊎◌, inl, inr, ℕ, suc, ◌&&◌, not, Bool, true, false, cond, List, [], ◌∷◌, ◌++◌, drop, length, map, Option, Some, None, refl, ap, sym, ◌∙◌, subst, arith}
use Rattle.std.specs.Prelude.{replicate}
use Rattle.std.specs.Bool.{then_some}
use Rattle.std.specs.List.{list_all}
use Rattle.std.specs.Global.{Vec}
use Rattle.std.proofs.lemmas.Bool.{false≢true}
use Rattle.blif_models.specs.Circuits.{Cover, Row}
use Rattle.blif_models.specs.Models.{Latch, held, join_of, latched}
use Rattle.cover_nets.specs.declared.net.Cube.{Cube}
use Rattle.blif_drafts.specs.declared.open_models.OpenModels.{OpenModels}
use Rattle.blif_drafts.specs.declared.stops.LineStop.{LineStop}
use Rattle.blif_drafts.specs.declared.stops.LineStop.TheVariants as drafts_stops
use Rattle.blif_drafts.specs.Latches.{is_ending, latch_of, latch_with}
use Rattle.blif_drafts.specs.OpenDrafts as drafts
use Rattle.blif_drafts.specs.OpenDrafts.{cover_refused, first_word, inputs_refused, latch_refused, named_at, outputs_refused}
use Rattle.blif_drafts.specs.OpenModels as opened
use Rattle.blif_drafts.specs.OpenModels.{AddNames, BeginsFurther, BeginsMain, HoldsLine, NamesPass}
use Rattle.blif_text.specs.Marks.{is_plain}
use Rattle.blif_text.specs.Statements.{Statement, ends, inputs, latch, left_out, model, names, nothing, outputs, passed_over, row, said, subckt, unknown}
use Rattle.blif_text.specs.Text.{Line, Word, is_allowed, words_of}
use Rattle.blif_wholes.specs.declared.bodies.CoverRows.{CoverRows}
use Rattle.blif_net.specs.declared.covers.OpenCover.{OpenCover}
use Rattle.blif_net.specs.declared.faults.BlifStop.{BlifStop}
use Rattle.blif_net.specs.declared.faults.BlifStop.TheVariants as stops
use Rattle.blif_net.specs.declared.faults.FaultKind.{FaultKind}
use Rattle.blif_net.specs.declared.faults.FaultKind.TheVariants as kinds
use Rattle.blif_net.specs.declared.reading.Reading.{Reading}
use Rattle.blif_net.specs.Circuits.{Context, after_statement, close}
use Rattle.blif_net.specs.Faults.{end_fault, line_fault, open_fault}
use Rattle.blif_net.specs.CoverTexts.{front_of, last_of, rows_fault}
use Rattle.blif_net.specs.ModelLines.{AreLeftBy, kind_of, stop_of}
use Rattle.blif_net.specs.OpenCovers.{StopIs, StopsRow, TakesRow}
use Rattle.blif_net.specs.Reading.{ArePlainWords, Closes, IsOpenIn, IsReadingOf, StopsLine, StopsStatement, TakesLine, TakesStatement, follows_end}
use Rattle.blif_net.proofs.Fronts.{front_is}
use Rattle.blif_net.proofs.Keeping.{bare_left, end_left, further_left, inputs_left, latch_left, main_left, main_outputs_left, names_left, no_row, other_outputs_left, row_left, with_models}
use Rattle.blif_net.proofs.ModelLines.{drafts_follow}
use Rattle.blif_net.proofs.LineWords.{said_pass}
use Rattle.blif_net.proofs.PlainWords.{actual_plain}

-- behind a cover that was closed the models are the same
over : (line : ℕ) (c : Context) (old mid : Reading) → Closes old mid → IsReadingOf line c old → AreLeftBy line c mid.models
over line c old mid a r = subst (λ (t : OpenModels). AreLeftBy line c t) (sym a.models) r.models

plain_over : (line : ℕ) (c : Context) (old mid : Reading) → Closes old mid → IsReadingOf line c old → NamesPass is_plain mid.models
plain_over line c old mid a r = subst (λ (t : OpenModels). NamesPass is_plain t) (sym a.models) r.plain

-- `.inputs`

pub inputs_taken : (old mid : Reading) (models' : OpenModels) (line : ℕ) (words : List Word) → Closes old mid → opened.TakesLine mid.models line (inputs_refused words) (drafts.with_inputs line words) models' → AddNames mid.models words models'
    → TakesStatement old line (inputs words) (with_models mid models')
inputs_taken old mid models' line words a t n = record {
  faultless = λ c r. (drafts_follow.takes_inputs line c words mid.models models' (over line c old mid a r) t).0;
  after = λ c p r. record {
    models = (drafts_follow.takes_inputs line c words mid.models models' (over line c old mid a r) t).1;
    plain = n is_plain p (plain_over line c old mid a r);
    left = inputs_left c mid models' (named_at line words) (a.left c r.left);
  };
}

pub inputs_stopped : (old mid : Reading) (line : ℕ) (words : List Word) (stop : LineStop) → Closes old mid → opened.StopsLine mid.models (inputs_refused words) stop → StopsStatement old line (inputs words) (stop_of stop)
inputs_stopped old mid line words drafts_stops.Memory a s = λ c r. tt
inputs_stopped old mid line words (drafts_stops.Refused refusal) a s = λ c r. drafts_follow.stops_inputs line c words mid.models refusal (over line c old mid a r) s

-- `.outputs`

pub main_outputs_taken : (old mid : Reading) (models' : OpenModels) (outputs' : Vec ℕ) (line : ℕ) (words : List Word) → Closes old mid → opened.TakesLine mid.models line (outputs_refused words) (drafts.with_outputs line words) models' → AddNames mid.models words models'
    → mid.closed.items ≡ [] → outputs'.items ≡ mid.outputs.items ++ replicate (length words) line
    → TakesStatement old line (outputs words) (record { models = models'; closed = mid.closed; rows = mid.rows; cover = mid.cover; outputs = outputs'; begun = mid.begun; ended = mid.ended })
main_outputs_taken old mid models' outputs' line words a t n e f = record {
  faultless = λ c r. (drafts_follow.takes_outputs line c words mid.models models' (over line c old mid a r) t).0;
  after = λ c p r. record {
    models = (drafts_follow.takes_outputs line c words mid.models models' (over line c old mid a r) t).1;
    plain = n is_plain p (plain_over line c old mid a r);
    left = main_outputs_left c mid models' outputs' line words e f (a.left c r.left);
  };
}

pub other_outputs_taken : (old mid : Reading) (models' : OpenModels) (line : ℕ) (words : List Word) → Closes old mid → opened.TakesLine mid.models line (outputs_refused words) (drafts.with_outputs line words) models' → AddNames mid.models words models'
    → (mid.closed.items ≡ [] → ⊥) → TakesStatement old line (outputs words) (with_models mid models')
other_outputs_taken old mid models' line words a t n e = record {
  faultless = λ c r. (drafts_follow.takes_outputs line c words mid.models models' (over line c old mid a r) t).0;
  after = λ c p r. record {
    models = (drafts_follow.takes_outputs line c words mid.models models' (over line c old mid a r) t).1;
    plain = n is_plain p (plain_over line c old mid a r);
    left = other_outputs_left c mid models' (named_at line words) e (a.left c r.left);
  };
}

pub outputs_stopped : (old mid : Reading) (line : ℕ) (words : List Word) (stop : LineStop) → Closes old mid → opened.StopsLine mid.models (outputs_refused words) stop → StopsStatement old line (outputs words) (stop_of stop)
outputs_stopped old mid line words drafts_stops.Memory a s = λ c r. tt
outputs_stopped old mid line words (drafts_stops.Refused refusal) a s = λ c r. drafts_follow.stops_outputs line c words mid.models refusal (over line c old mid a r) s

-- `.names`

-- the words are these, and the last
record AreParted (words front : List Word) (last : Word) : Type 0 where
  first : Word
  rest : List Word
  some : words ≡ first ∷ rest
  fronts : front_of words ≡ front
  lasts : last_of words ≡ last

parted : (words front : List Word) (last : Word) → words ≡ front ++ last ∷ [] → AreParted words front last
parted words front last e = by_front front e
  where
    by_front : (some_front : List Word) → words ≡ some_front ++ last ∷ [] → AreParted words some_front last
    by_front [] e = record { first = last; rest = []; some = e; fronts = ap front_of e ∙ (front_is [] last).0; lasts = ap last_of e ∙ (front_is [] last).1 }
    by_front (w ∷ ws) e = record { first = w; rest = ws ++ last ∷ []; some = e; fronts = ap front_of e ∙ (front_is (w ∷ ws) last).0; lasts = ap last_of e ∙ (front_is (w ∷ ws) last).1 }

abbrev TakesCover : OpenModels → ℕ → List Word → Word → OpenModels → Type 0
TakesCover old line front last new = opened.TakesLine old line (cover_refused last) (drafts.with_item (drafts.cover_at line front last [])) new

cover_law : (c : Context) (old : OpenModels) (line : ℕ) (words front : List Word) (last : Word) (new : OpenModels) → AreParted words front last → TakesCover old line front last new → AreLeftBy line c old
    → (open_fault c line (names words) ≡ None) × AreLeftBy (suc line) (after_statement c line (names words)) new
cover_law c old line words front last new p t left =
    subst (λ (ws : List Word). (open_fault c line (names ws) ≡ None) × AreLeftBy (suc line) (after_statement c line (names ws)) new) (sym p.some)
    (drafts_follow.takes_names line c p.first p.rest old new left
    (subst (λ (ws : List Word). TakesCover old line (front_of ws) (last_of ws) new) p.some
    (subst (λ (f : List Word). TakesCover old line f (last_of words) new) (sym p.fronts) (subst (λ (l : Word). TakesCover old line front l new) (sym p.lasts) t))))

pub names_taken : (old mid : Reading) (models' : OpenModels) (line many : ℕ) (words front : List Word) (last : Word) (rows : List Cube) → words ≡ front ++ last ∷ [] → Closes old mid
    → ((rows : List Row) → opened.TakesLine mid.models line (cover_refused last) (drafts.with_item (drafts.cover_at line front last rows)) models') → AddNames mid.models (front ++ last ∷ []) models' → many ≡ length front → rows ≡ []
    → TakesStatement old line (names words) (record { models = models'; closed = mid.closed; rows = mid.rows; cover = Some (record { ins = many; rows = rows; on = true }); outputs = mid.outputs; begun = mid.begun; ended = mid.ended })
names_taken old mid models' line many words front last rows e a t n f g =
    let p = parted words front last e in
    record {
      faultless = λ c r. (cover_law c mid.models line words front last models' p (t []) (over line c old mid a r)).0;
      after = λ c plain r. record {
        models = (cover_law c mid.models line words front last models' p (t []) (over line c old mid a r)).1;
        plain = n is_plain (subst ArePlainWords e plain) (plain_over line c old mid a r);
        left = names_left c mid models' line many words rows (f ∙ ap length (sym p.fronts)) g (a.left c r.left);
      };
    }

cover_stop : (c : Context) (old : OpenModels) (line : ℕ) (words front : List Word) (last : Word) (stop : LineStop) → AreParted words front last → opened.StopsLine old (cover_refused last) stop → AreLeftBy line c old → StopIs (open_fault c line (names words)) (stop_of stop)
cover_stop c old line words front last drafts_stops.Memory p s left = tt
cover_stop c old line words front last (drafts_stops.Refused refusal) p s left =
    subst (λ (ws : List Word). open_fault c line (names ws) ≡ Some (kind_of refusal)) (sym p.some)
    (drafts_follow.stops_names line c p.first p.rest old refusal left
    (subst (λ (l : Word). opened.StopsLine old (cover_refused l) (drafts_stops.Refused refusal)) (sym (sym (ap last_of p.some) ∙ p.lasts)) s))

pub names_stopped : (old mid : Reading) (line : ℕ) (words front : List Word) (last : Word) (stop : LineStop) → words ≡ front ++ last ∷ [] → Closes old mid → opened.StopsLine mid.models (cover_refused last) stop → StopsStatement old line (names words) (stop_of stop)
names_stopped old mid line words front last stop e a s = λ c r. cover_stop c mid.models line words front last stop (parted words front last e) s (over line c old mid a r)

-- `.latch`

-- what a latch reads and shows are the first two words
two_plain : (line : ℕ) (words : List Word) (one : Latch) → latch_of line words ≡ Some one → ArePlainWords words → ArePlainWords (one.input ∷ one.output ∷ [])
two_plain line [] one e p = cc
two_plain line (w ∷ []) one e p = cc
two_plain line (w ∷ v ∷ ending) one e p = by_form (is_ending ending) e
  where
    both_first : (a b c : Bool) → (a && (b && c)) ≡ true → (a && (b && true)) ≡ true
    both_first true true c h = refl
    both_first true false c h = absurd (false≢true h)
    both_first false b c h = absurd (false≢true h)

    by_form : (b : Bool) → then_some b (latch_with line w v) ≡ Some one → ArePlainWords (one.input ∷ one.output ∷ [])
    by_form true f = let same : latch_with line w v ≡ one = cc in subst (λ (t : Latch). ArePlainWords (t.input ∷ t.output ∷ [])) same (both_first (is_plain w) (is_plain v) (list_all is_plain ending) p)
    by_form false f = cc

pub latch_taken : (old mid : Reading) (models' : OpenModels) (rows' : Vec (Option CoverRows)) (line : ℕ) (words : List Word) (one : Latch) → Closes old mid → latch_of line words ≡ Some one
    → opened.TakesLine mid.models line (latch_refused one.output) (drafts.with_item (latched one)) models' → AddNames mid.models (one.input ∷ one.output ∷ []) models' → rows'.items ≡ mid.rows.items ++ None ∷ []
    → TakesStatement old line (latch words) (record { models = models'; closed = mid.closed; rows = rows'; cover = mid.cover; outputs = mid.outputs; begun = mid.begun; ended = mid.ended })
latch_taken old mid models' rows' line words one a e t n f = record {
  faultless = λ c r. (drafts_follow.takes_latch line c words one mid.models models' e (over line c old mid a r) t).0;
  after = λ c p r. record {
    models = (drafts_follow.takes_latch line c words one mid.models models' e (over line c old mid a r) t).1;
    plain = n is_plain (two_plain line words one e p) (plain_over line c old mid a r);
    left = latch_left c mid models' rows' line words one e f (a.left c r.left);
  };
}

pub latch_stopped : (old mid : Reading) (line : ℕ) (words : List Word) (one : Latch) (stop : LineStop) → Closes old mid → latch_of line words ≡ Some one → opened.StopsLine mid.models (latch_refused one.output) stop → StopsStatement old line (latch words) (stop_of stop)
latch_stopped old mid line words one drafts_stops.Memory a e s = λ c r. tt
latch_stopped old mid line words one (drafts_stops.Refused refusal) a e s = λ c r. drafts_follow.stops_latch line c words one mid.models refusal e (over line c old mid a r) s

-- `.subckt`

and_both : (a b : Bool) → (a && b) ≡ true → (a ≡ true) × (b ≡ true)
and_both true b h = (refl, h)
and_both false b h = absurd (false≢true h)

actuals_plain : (words : List Word) → ArePlainWords words → ArePlainWords (map (λ word. (join_of word).actual) words)
actuals_plain [] h = refl
actuals_plain (word ∷ words) h =
    let both = and_both (is_plain word) (list_all is_plain words) h in
    ap (λ b. b && list_all is_plain (map (λ one. (join_of one).actual) words)) (actual_plain word both.0) ∙ actuals_plain words both.1

behind_plain : (words : List Word) → ArePlainWords words → ArePlainWords (map (λ word. (join_of word).actual) (drop 1 words))
behind_plain [] h = refl
behind_plain (word ∷ words) h = actuals_plain words (and_both (is_plain word) (list_all is_plain words) h).1

pub subckt_taken : (old mid : Reading) (models' : OpenModels) (rows' : Vec (Option CoverRows)) (line : ℕ) (words : List Word) → Closes old mid → HoldsLine mid.models line words models' → AddNames mid.models (map (λ word. (join_of word).actual) (drop 1 words)) models'
    → rows'.items ≡ mid.rows.items ++ None ∷ []
    → TakesStatement old line (subckt words) (record { models = models'; closed = mid.closed; rows = rows'; cover = mid.cover; outputs = mid.outputs; begun = mid.begun; ended = mid.ended })
subckt_taken old mid models' rows' line words a t n f = record {
  faultless = λ c r. refl;
  after = λ c p r. record {
    models = drafts_follow.takes_subckt line c words mid.models models' (over line c old mid a r) t;
    plain = n is_plain (behind_plain words p) (plain_over line c old mid a r);
    left = bare_left c mid models' rows' (held (record { line = line; words = words })) tt f (a.left c r.left);
  };
}

-- `.model`

pub main_taken : (old mid : Reading) (models' : OpenModels) (rows' : Vec (Option CoverRows)) (outputs' : Vec ℕ) (line : ℕ) (words : List Word) → old.begun ≡ false → Closes old mid → BeginsMain mid.models line (first_word words) models' → AddNames mid.models [] models'
    → rows'.items ≡ [] → outputs'.items ≡ []
    → TakesStatement old line (model words) (record { models = models'; closed = mid.closed; rows = rows'; cover = mid.cover; outputs = outputs'; begun = mid.begun; ended = false })
main_taken old mid models' rows' outputs' line words new a t n k l = record {
  faultless = λ c r. refl;
  after = λ c p r.
      let begun : c.begun ≡ false = sym (r.left).begun ∙ new in
      record {
        models = drafts_follow.begins_main line c words mid.models models' begun (over line c old mid a r) t;
        plain = n is_plain refl (plain_over line c old mid a r);
        left = main_left c mid models' rows' outputs' line words begun ((r.models).main begun) k l (a.left c r.left);
      };
}

pub further_taken : (old mid : Reading) (models' : OpenModels) (closed' : Vec (Vec (Option CoverRows))) (rows rows' : Vec (Option CoverRows)) (line : ℕ) (words : List Word) → old.begun ≡ true → Closes old mid → BeginsFurther mid.models line (first_word words) models'
    → AddNames mid.models [] models' → closed'.items ≡ mid.closed.items ++ rows ∷ [] → rows ≡ mid.rows → rows'.items ≡ []
    → TakesStatement old line (model words) (record { models = models'; closed = closed'; rows = rows'; cover = mid.cover; outputs = mid.outputs; begun = mid.begun; ended = false })
further_taken old mid models' closed' rows rows' line words more a t n f g k = record {
  faultless = λ c r. refl;
  after = λ c p r.
      let begun : c.begun ≡ true = sym (r.left).begun ∙ more in
      record {
        models = drafts_follow.begins_further line c words mid.models models' begun (over line c old mid a r) t;
        plain = n is_plain refl (plain_over line c old mid a r);
        left = further_left c mid models' closed' rows rows' line words begun f g k a.none (a.left c r.left);
      };
}

-- `.end`, rows, and what adds nothing

later_by_one : (line : ℕ) (c : Context) (one : OpenModels) → AreLeftBy line c one → AreLeftBy (suc line) c one
later_by_one line c one h = drafts_follow.later line (suc line) c one (omega arith) h

pub end_taken : (old mid : Reading) (line : ℕ) (words : List Word) → words ≡ [] → Closes old mid
    → TakesStatement old line (ends words) (record { models = mid.models; closed = mid.closed; rows = mid.rows; cover = mid.cover; outputs = mid.outputs; begun = mid.begun; ended = true })
end_taken old mid line words e a = record {
  faultless = λ c r. subst (λ (t : List Word). open_fault c line (ends t) ≡ None) (sym e) refl;
  after = λ c p r. record {
    models = later_by_one line (after_statement c line (ends words)) mid.models (drafts_follow.ended line c words mid.models (over line c old mid a r));
    plain = plain_over line c old mid a r;
    left = end_left c mid (a.left c r.left);
  };
}

pub end_stopped : (old : Reading) (line : ℕ) (words : List Word) → (words ≡ [] → ⊥) → StopsStatement old line (ends words) (stops.Fault kinds.Word)
end_stopped old line [] e = absurd (e refl)
end_stopped old line (word ∷ words) e = λ c r. refl

pub row_taken : (old : Reading) (one new : OpenCover) (line : ℕ) (words : List Word) → old.cover ≡ Some one → TakesRow one words new
    → TakesStatement old line (row words) (record { models = old.models; closed = old.closed; rows = old.rows; cover = Some new; outputs = old.outputs; begun = true; ended = old.ended })
row_taken old one new line words e t = record {
  faultless = λ c r. (row_left c old one new words e t r.left).0;
  after = λ c p r. record {
    models = later_by_one line (after_statement c line (row words)) old.models (drafts_follow.rows line c words old.models r.models);
    plain = r.plain;
    left = (row_left c old one new words e t r.left).1;
  };
}

pub row_stopped : (old : Reading) (one : OpenCover) (line : ℕ) (words : List Word) (stop : BlifStop) → old.cover ≡ Some one → StopsRow one words stop → StopsStatement old line (row words) stop
row_stopped old one line words stop e s = λ c r. by_cover c.cover (subst (λ (q : Option OpenCover). IsOpenIn c.cover q) e (r.left).cover)
  where
    by_cover : (o : Option Cover) → IsOpenIn o (Some one) → StopIs (rows_fault o words) stop
    by_cover None h = absurd h
    by_cover (Some cover) h = s cover h

pub no_row_open : (old : Reading) (line : ℕ) (words : List Word) → old.cover ≡ None → StopsStatement old line (row words) (stops.Fault kinds.Word)
no_row_open old line words e = λ c r. ap (λ (o : Option Cover). rows_fault o words) (no_row c old words e r.left)

pub nothing_taken : (old : Reading) (line : ℕ) → TakesStatement old line nothing old
nothing_taken old line = record { faultless = λ c r. refl; after = λ c p r. record { models = later_by_one line c old.models r.models; plain = r.plain; left = r.left } }

pub passed_taken : (old mid : Reading) (line : ℕ) → Closes old mid → TakesStatement old line passed_over mid
passed_taken old mid line a = record {
  faultless = λ c r. refl;
  after = λ c p r. record { models = later_by_one line (close c) mid.models (drafts_follow.closes line c mid.models (over line c old mid a r)); plain = plain_over line c old mid a r; left = a.left c r.left };
}

-- Whole lines

unclean : (c : Context) (line : Line) → list_all is_allowed line.bytes ≡ false → line_fault c line ≡ Some kinds.Word
unfolding line_fault
unclean c line e = ap (λ b. cond (not b) (Some kinds.Word) (cond c.ended (end_fault (said line)) (open_fault c line.number (said line)))) e

clean : (c : Context) (line : Line) (ended : Bool) → list_all is_allowed line.bytes ≡ true → c.ended ≡ ended → line_fault c line ≡ cond ended (end_fault (said line)) (open_fault c line.number (said line))
unfolding line_fault
clean c line ended e f =
    ap (λ b. cond (not b) (Some kinds.Word) (cond c.ended (end_fault (said line)) (open_fault c line.number (said line)))) e ∙ ap (λ b. cond b (end_fault (said line)) (open_fault c line.number (said line))) f

pub unclean_line : (old : Reading) (line : Line) → list_all is_allowed line.bytes ≡ false → StopsLine old line (stops.Fault kinds.Word)
unclean_line old line e = λ c r. unclean c line e

end_refuses : (statement : Statement) → follows_end statement ≡ false → end_fault statement ≡ Some kinds.Word
end_refuses nothing e = absurd (false≢true (sym e))
end_refuses (model words) e = absurd (false≢true (sym e))
end_refuses (inputs words) e = refl
end_refuses (outputs words) e = refl
end_refuses (names words) e = refl
end_refuses (subckt words) e = refl
end_refuses (latch words) e = refl
end_refuses (ends words) e = refl
end_refuses (row words) e = refl
end_refuses passed_over e = refl
end_refuses left_out e = refl
end_refuses unknown e = refl

end_passes : (c : Context) (line : ℕ) (statement : Statement) → follows_end statement ≡ true → (end_fault statement ≡ None) × (open_fault c line statement ≡ None)
end_passes c line nothing e = (refl, refl)
end_passes c line (model words) e = (refl, refl)
end_passes c line (inputs words) e = absurd (false≢true e)
end_passes c line (outputs words) e = absurd (false≢true e)
end_passes c line (names words) e = absurd (false≢true e)
end_passes c line (subckt words) e = absurd (false≢true e)
end_passes c line (latch words) e = absurd (false≢true e)
end_passes c line (ends words) e = absurd (false≢true e)
end_passes c line (row words) e = absurd (false≢true e)
end_passes c line passed_over e = absurd (false≢true e)
end_passes c line left_out e = absurd (false≢true e)
end_passes c line unknown e = absurd (false≢true e)

pub behind_end : (old : Reading) (line : Line) → list_all is_allowed line.bytes ≡ true → old.ended ≡ true → follows_end (said line) ≡ false → StopsLine old line (stops.Fault kinds.Word)
behind_end old line e f s = λ c r. clean c line true e (sym (r.left).ended ∙ f) ∙ end_refuses (said line) s

-- a line that says this was taken, where `.end` didn't come, or it may stand behind one
pub open_line : (old new : Reading) (line : Line) (statement : Statement) → list_all is_allowed line.bytes ≡ true → (old.ended ≡ false) ⊎ (follows_end statement ≡ true) → statement ≡ said line → TakesStatement old line.number statement new → TakesLine old line new
open_line old new line statement e f same t =
    let taken = subst (λ (s : Statement). TakesStatement old line.number s new) same t in
    record {
      faultless = λ c r. by_end c r (subst (λ (s : Statement). (old.ended ≡ false) ⊎ (follows_end s ≡ true)) same f) (taken.faultless c r);
      after = λ c p r. taken.after c (said_pass is_plain (words_of line.bytes) p) r;
    }
  where
    none_by : (c : Context) (b : Bool) → c.ended ≡ b → follows_end (said line) ≡ true → line_fault c line ≡ None
    none_by c true g k = clean c line true e g ∙ (end_passes c line.number (said line) k).0
    none_by c false g k = clean c line false e g ∙ (end_passes c line.number (said line) k).1

    by_end : (c : Context) → IsReadingOf line.number c old → (old.ended ≡ false) ⊎ (follows_end (said line) ≡ true) → open_fault c line.number (said line) ≡ None → line_fault c line ≡ None
    by_end c r (inl g) none = clean c line false e (sym (r.left).ended ∙ g) ∙ none
    by_end c r (inr g) none = none_by c c.ended refl g

pub open_stops : (old : Reading) (line : Line) (statement : Statement) (stop : BlifStop) → list_all is_allowed line.bytes ≡ true → (old.ended ≡ false) ⊎ (follows_end statement ≡ true) → statement ≡ said line → StopsStatement old line.number statement stop → StopsLine old line stop
open_stops old line statement stop e f same s =
    λ c r. by_end c r (subst (λ (t : Statement). (old.ended ≡ false) ⊎ (follows_end t ≡ true)) same f) (subst (λ (t : Statement). StopIs (open_fault c line.number t) stop) same (s c r))
  where
    by_both : (c : Context) (b : Bool) → c.ended ≡ b → follows_end (said line) ≡ true → StopIs (open_fault c line.number (said line)) stop → StopIs (line_fault c line) stop
    by_both c true g k none =
        subst (λ (o : Option FaultKind). StopIs o stop) (sym (clean c line true e g ∙ (end_passes c line.number (said line) k).0 ∙ sym (end_passes c line.number (said line) k).1)) none
    by_both c false g k none = subst (λ (o : Option FaultKind). StopIs o stop) (sym (clean c line false e g)) none

    by_end : (c : Context) → IsReadingOf line.number c old → (old.ended ≡ false) ⊎ (follows_end (said line) ≡ true) → StopIs (open_fault c line.number (said line)) stop → StopIs (line_fault c line) stop
    by_end c r (inl g) h = subst (λ (o : Option FaultKind). StopIs o stop) (sym (clean c line false e (sym (r.left).ended ∙ g))) h
    by_end c r (inr g) h = by_both c c.ended refl g h
