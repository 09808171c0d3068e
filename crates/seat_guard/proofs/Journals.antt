-- Each change of a seat keeps the part of the journal.
use Rattle.std.proofs.Common.{◌≡◌, ◌≢◌, ℕ, suc, ◌+◌, ◌^◌, ◌<◌, ◌≤◌, Bool, true, false, List, [], ◌∷◌, ◌++◌, length, set, refl, ap, sym, subst, ◌∙◌, ⊎_elim, arith, length-append, length-set, true≢false}
use Rattle.std.specs.Prelude as std
use mathlib.Core.Logic.{dite}
use mathlib.Core.Option.{Option, none, some, some-injective, some-ne-none}
use native.Mathlib.Decide.{ℕ_discrete, dec_lt}
use lib.ListN.{get_elem?}
use Rattle.edge_bits.specs.declared.limits.TheConstants.{CELLS}
use Rattle.atomic_table.proofs.Lists.{at_snoc, set_else}
use Rattle.function_laws.specs.declared.history.Name.{Name}
use Rattle.function_laws.specs.declared.history.Function.{Function}
use Rattle.function_laws.specs.declared.history.Entry.{Entry}
use Rattle.function_laws.specs.Tables.{Table, Sizes, opening}
use Rattle.function_laws.specs.Steps.{IsAllowed, after}
use Rattle.function_laws.specs.Histories.{IsLegal, table_after}
use Rattle.function_laws.proofs.HistoryLemmas.{table_after-push, IsLegal-push}
use Rattle.function_laws.proofs.OrderLemmas.{EachWith-append}
use Rattle.seat_guard.specs.declared.view.Held.{Held}
use Rattle.seat_guard.specs.declared.view.Row.{Row}
use Rattle.seat_guard.specs.declared.view.Telling.{Telling}
use Rattle.seat_guard.specs.declared.view.Gone.{Gone}
use Rattle.seat_guard.specs.declared.view.Draws.{Draws}
use Rattle.seat_guard.specs.declared.view.Leaving.{Leaving}
use Rattle.seat_guard.specs.Known.{StandsIn, sizes_for}
use Rattle.seat_guard.specs.Views.{Agrees, told_with, MayTell, stands_for, cell_at, blank, session_of, holding, letting_go, gone_of, with_gone, one_more, orders_of, noting}
use Rattle.function_laws.specs.SessionEntries.{entries_of, entry}
use Rattle.function_laws.specs.Sizes.{Orders}
use Rattle.function_laws.specs.EntryOrders.{EachWith, opening_orders, orders_from}
use Rattle.seat_guard.specs.Notes.{AreNotedIn}
use Rattle.seat_guard.specs.Journal.{IsLeftRow, LiveFits, Fits, Journal}
use Rattle.function_laws.specs.Widening.{AgreesAt, at_sizes}
use Rattle.seat_guard.specs.Finds.{Finds, FindsCall}
use Rattle.seat_guard.specs.Sifted.{ArePlaced, IsHadAt}
use Rattle.seat_guard.specs.Rule.{AllBack, RowsStand, Whole}
use Rattle.function_laws.proofs.SessionEntryLemmas.{put_at, put_here, put_else, entries_same, entries_other}
use Rattle.function_laws.proofs.ApartLemmas.{after_apart}
use Rattle.seat_guard.proofs.Bools.{by_bool}
use Rattle.seat_guard.proofs.Lists.{at_end, each_append, each_map, each_set, off, not_true}
use Rattle.seat_guard.proofs.NoteLemmas.{notes-longer, with-note, with-place}
use Rattle.seat_guard.proofs.Cells.{after_cells}
use Rattle.seat_guard.proofs.NameSteps.{finds-left, given-after, stand-after}

module _ (place turn : ℕ) (ds : List Draws) (start : Sizes) (log : List Entry) (table : Table) (r : Journal place turn ds start log table) where
  abbrev pub mine : (id : ℕ) (d : Draws) → get_elem? ds id ≡ some d → d.live ≡ true → LiveFits turn log table r.seat id d
  mine id d at live = (r.each id d at).live live

  -- two live seats with one session are one seat
  one_seat : (i j : ℕ) (d e : Draws) → LiveFits turn log table r.seat i d → LiveFits turn log table r.seat j e → d.session ≡ e.session → i ≡ j
  one_seat i j d e a b is = some-injective i j (sym a.seated ∙ (ap r.seat is ∙ b.seated))

  -- one seat alone has the turn
  pub one_holder : (i j : ℕ) (d e : Draws) → get_elem? ds i ≡ some d → get_elem? ds j ≡ some e → d.holds ≡ true → e.holds ≡ true → i ≡ j
  one_holder i j d e at there h k =
      let a = mine i d at ((r.each i d at).holder h) in
      let b = mine j e there ((r.each j e there).holder k) in
      let x = a.held h in let y = b.held k in one_seat i j d e a b (omega (arith, x, y))

  pub held_turn : (i : ℕ) (d : Draws) → get_elem? ds i ≡ some d → d.holds ≡ true → turn ≡ suc d.session
  held_turn i d at h = (mine i d at ((r.each i d at).holder h)).held h

  -- the free turn is taken
  pub takes_it : (id : ℕ) (d : Draws) (cells : List (std.Option Held)) (others : List Held) (now : Orders) (functions : List Function) → get_elem? ds id ≡ some d → d.live ≡ true → turn ≡ 0 → table.cells ≡ cell_at table.sizes cells → length cells ≡ CELLS
      → Journal place (suc d.session) (set ds id (holding d cells others now functions)) start log table
  takes_it id d cells others now functions at live free board len =
      let me = mine id d at live in record {
        seat = r.seat;
        legal = r.legal;
        leaves = r.leaves;
        fixed = r.fixed;
        drawn = r.drawn;
        bounded = r.bounded;
        beyond = r.beyond;
        found = r.found;
        each = each_set (Fits (suc d.session) start log table r.seat) ds id (holding d cells others now functions)
            (λ j e apart here. let f = r.each j e here in record {
              live = λ l. let g = f.live l in record { seated = g.seated; below = g.below; mine = g.mine; agrees = g.agrees; held = λ h. absurd (let z = g.held h in omega (arith, z, free)); given = g.given; stand = g.stand };
              closing = f.closing;
              holder = f.holder;
              rowless = f.rowless;
              noted = f.noted;
            }) (record {
              live = λ l. record {
                seated = me.seated;
                below = me.below;
                mine = me.mine;
                agrees = record { sizes_are = me.agrees.sizes_are; live = me.agrees.live; fresh = me.agrees.fresh; cells = λ h. (board, len) };
                held = λ h. refl;
                given = me.given;
                stand = me.stand;
              };
              closing = λ c. absurd (true≢false (sym live ∙ ((r.each id d at).closing c).0));
              holder = λ h. live;
              rowless = λ l c. absurd (true≢false (sym live ∙ l));
              noted = (r.each id d at).noted;
            });
      }

  -- the turn is given back
  pub gives_it : (id : ℕ) (d : Draws) (leaving : Leaving) → get_elem? ds id ≡ some d → d.live ≡ true → d.holds ≡ true → Journal place 0 (set ds id (letting_go d leaving)) start log table
  gives_it id d leaving at live holds =
      let me = mine id d at live in record {
        seat = r.seat;
        legal = r.legal;
        leaves = r.leaves;
        fixed = r.fixed;
        drawn = r.drawn;
        bounded = r.bounded;
        beyond = r.beyond;
        found = r.found;
        each = each_set (Fits 0 start log table r.seat) ds id (letting_go d leaving)
            (λ j e apart here. let f = r.each j e here in record {
              live = λ l. let g = f.live l in record {
                seated = g.seated;
                below = g.below;
                mine = g.mine;
                agrees = g.agrees;
                held = λ h. absurd (apart (one_holder j id e d here at h holds));
                given = g.given;
                stand = g.stand;
              };
              closing = f.closing;
              holder = f.holder;
              rowless = f.rowless;
              noted = f.noted;
            }) (record {
              live = λ l. record {
                seated = me.seated;
                below = me.below;
                mine = me.mine;
                agrees = record { sizes_are = me.agrees.sizes_are; live = me.agrees.live; fresh = me.agrees.fresh; cells = λ h. absurd (off h) };
                held = λ h. absurd (off h);
                given = me.given;
                stand = me.stand;
              };
              closing = λ c. absurd (true≢false (sym live ∙ ((r.each id d at).closing c).0));
              holder = λ h. absurd (off h);
              rowless = λ l c. absurd (true≢false (sym live ∙ l));
              noted = (r.each id d at).noted;
            });
      }

  -- a call draws its place
  pub draws_it : (id : ℕ) (d : Draws) (x : Telling) (orders : Orders) → get_elem? ds id ≡ some d → d.live ≡ true → length d.entries < 2 ^ 48 → MayTell d x → orders ≡ orders_from (opening_orders start) log → (d.holds ≡ true → orders_of d ≡ orders_from (opening_orders start) log)
      → Journal (suc (length log)) turn (set ds id (told_with orders d (length log) x)) start (log ++ entry (length log) d.session x.call x.reply ∷ []) (after table d.session x.call x.reply)
  draws_it id d x orders at live room may now held_now =
      let me = mine id d at live in
      let n : ℕ = length log in
      let e : Entry = entry n d.session x.call x.reply in
      let longer : List Entry = log ++ e ∷ [] in
      let u : Table = after table d.session x.call x.reply in
      let told : Draws = told_with orders d n x in
      let says = may.step table me.agrees in
      let len : length longer ≡ suc n = length-append log (e ∷ []) ∙ omega arith in
      let same : entries_of d.session longer ≡ d.entries ++ e ∷ [] = entries_same log d.session e refl ∙ ap (λ l. l ++ e ∷ []) me.mine in
      let other : (p : ℕ) → p ≢ d.session → entries_of p longer ≡ entries_of p log = λ p apart. entries_other log p e (λ is. apart (sym is)) in
      let aside : (p : ℕ) → p ≢ d.session → (u.live p ≡ table.live p) × (u.given p ≡ table.given p) = λ p apart. after_apart table d.session p x.call x.reply may.plain apart in
      let sizes : u.sizes ≡ table.sizes = says.1.sizes_are ∙ sym me.agrees.sizes_are in
      let finds : FindsCall table (orders_from (opening_orders start) log) d.session x.call =
      finds-left d table (orders_from (opening_orders start) log) me.agrees.sizes_are me.agrees.live x.call (λ ordering. by_bool d.holds held_now (λ without. absurd (true≢false (sym ordering ∙ may.orders without)))) may.finds in
      let row_stays : (p : ℕ) → p ≢ d.session → (row : Row) → StandsIn table p row → StandsIn u p row =
      λ p away row is. ap (λ (k : Name → std.Option Function). k row.name) (aside p away).0 ∙ is ∙ ap (λ (z : Sizes). std.Some (at_sizes z row.held.function)) (sym sizes) in
      let rows_stay : (p : ℕ) → p ≢ d.session → (rows : List Row) → AgreesAt table.sizes (stands_for rows) (table.live p) → AgreesAt u.sizes (stands_for rows) (u.live p) =
      λ p away rows agrees name. ap (λ (k : Name → std.Option Function). k name) (aside p away).0 ∙ agrees name ∙ ap (λ (z : Sizes). std.option_map (at_sizes z) (stands_for rows name)) (sym sizes) in
      record {
        seat = r.seat;
        legal = IsLegal-push start log e r.legal refl (subst (λ (t : Table). IsAllowed t d.session x.call x.reply) (sym r.leaves) says.0);
        leaves = table_after-push (opening start) log e ∙ ap (λ (t : Table). after t d.session x.call x.reply) r.leaves;
        fixed = sizes ∙ r.fixed;
        drawn = sym len;
        bounded = λ p. dite (ℕ_discrete p d.session)
            (λ is. let l : length (entries_of p longer) ≡ length d.entries + 1 = ap (λ (q : ℕ). length (entries_of q longer)) is ∙ (ap length same ∙ length-append d.entries (e ∷ [])) in omega (arith, l, room))
            (λ apart. subst (λ (l : List Entry). length l ≤ 2 ^ 48) (sym (other p apart)) (r.bounded p));
        beyond = λ p le. other p (λ is. let b = me.below in omega (arith, b, is, le)) ∙ r.beyond p le;
        found = EachWith-append Finds (opening start) (opening_orders start) log (e ∷ []) r.found (subst (λ (t : Table). Finds t (orders_from (opening_orders start) log) e) (sym r.leaves) finds, tt);
        each = each_set (Fits turn start longer u r.seat) ds id told
            (λ j f apart here. let fits = r.each j f here in record {
              live = λ l. let g = fits.live l in let away : f.session ≢ d.session = λ is. apart (one_seat j id f d g me is) in record {
                seated = g.seated;
                below = g.below;
                mine = other f.session away ∙ g.mine;
                agrees = record {
                  sizes_are = sizes ∙ g.agrees.sizes_are;
                  live = rows_stay f.session away f.rows g.agrees.live;
                  fresh = λ name le. ap (λ (h : Name → Bool). h name) (aside f.session away).1 ∙ g.agrees.fresh name le;
                  cells = λ h. by_bool d.holds
                      (λ holds. absurd (apart (one_holder j id f d here at h holds)))
                      (λ without. let c = g.agrees.cells h in (after_cells table d.session x.call x.reply may.plain (may.board without) ∙ c.0 ∙ ap (λ (z : Sizes). cell_at z f.cells) (sym sizes), c.1));
                };
                held = g.held;
                given = λ name h is. let a = aside f.session away in ap (λ (k : Name → Bool). k name) a.1 ∙ g.given name h (sym (ap (λ (k : Name → std.Option Function). k name) a.0) ∙ is);
                stand = each_map (StandsIn table f.session) (StandsIn u f.session) (row_stays f.session away) f.rows g.stand;
              };
              closing = λ c. let g = fits.closing c in let k = g.2 in (
                g.0,
                g.1,
                record {
                  few = k.few;
                  start_is = k.start_is;
                  later = λ p le. let a = k.later p le in let away : p ≢ d.session = λ is. some-ne-none id (sym me.seated ∙ (ap r.seat (sym is) ∙ a.no_seat)) in record {
                    no_seat = a.no_seat;
                    no_entry = other p away ∙ a.no_entry;
                    no_row = (aside p away).0 ∙ a.no_row;
                    no_name = (aside p away).1 ∙ a.no_name;
                  };
                  back = λ i y there. let a = k.back i y there in let away : y.session ≢ d.session = λ is. some-ne-none id (sym me.seated ∙ (ap r.seat (sym is) ∙ a.1)) in (a.0, a.1, other y.session away ∙ a.2, rows_stay y.session away y.rows a.3, notes-longer start log (e ∷ []) y.session y.noted y.placed a.4, sizes ∙ a.5);
                  left = each_map (IsLeftRow table r.seat f.given) (IsLeftRow u r.seat f.given) (λ row a. let away : a.0 ≢ d.session = λ is. some-ne-none id (sym me.seated ∙ (ap r.seat (sym is) ∙ a.2)) in (a.0, a.1, a.2, row_stays a.0 away row a.3)) f.rows k.left;
                },
              );
              holder = fits.holder;
              rowless = fits.rowless;
              noted = notes-longer start log (e ∷ []) f.session f.noted f.placed fits.noted;
            }) (record {
              live = λ l. record {
                seated = me.seated;
                below = me.below;
                mine = same;
                agrees = record { sizes_are = says.1.sizes_are; live = says.1.live; fresh = says.1.fresh; cells = says.1.cells };
                held = me.held;
                given = given-after d x table may.plain says.0 me.given;
                stand = stand-after d x table may.plain says.0 says.1 sizes me.given me.stand;
              };
              closing = λ c. absurd (true≢false (sym live ∙ ((r.each id d at).closing c).0));
              holder = λ h. live;
              rowless = λ l c. absurd (true≢false (sym live ∙ l));
              noted = with-place start log d n orders refl now (subst (Agrees d) (sym r.leaves) me.agrees) (r.each id d at).noted (e ∷ []);
            });
      }

  -- the orders are noted
  pub notes_it : (id : ℕ) (d : Draws) → get_elem? ds id ≡ some d → d.holds ≡ true → orders_of d ≡ orders_from (opening_orders start) log → Journal place turn (set ds id (noting d place)) start log table
  notes_it id d at holds now =
      let f = r.each id d at in
      let live = f.holder holds in
      let me = f.live live in record {
        seat = r.seat;
        legal = r.legal;
        leaves = r.leaves;
        fixed = r.fixed;
        drawn = r.drawn;
        bounded = r.bounded;
        beyond = r.beyond;
        found = r.found;
        each = each_set (Fits turn start log table r.seat) ds id (noting d place) (λ j e apart here. r.each j e here) (record {
          live = λ l. record {
            seated = me.seated;
            below = me.below;
            mine = me.mine;
            agrees = record { sizes_are = me.agrees.sizes_are; live = me.agrees.live; fresh = me.agrees.fresh; cells = me.agrees.cells };
            held = me.held;
            given = me.given;
            stand = me.stand;
          };
          closing = λ c. absurd (true≢false (sym live ∙ (f.closing c).0));
          holder = f.holder;
          rowless = f.rowless;
          noted = with-note start log d place (orders_of d) r.drawn now (subst (Agrees d) (sym r.leaves) me.agrees) f.noted;
        });
      }

  -- the closing seat gives a seat to the next session
  pub splits_it : (id : ℕ) (d : Draws) → get_elem? ds id ≡ some d → d.closing ≡ true → d.given < d.sessions
      → Journal place turn (set ds id (one_more d) ++ session_of d ∷ []) start log table
  splits_it id d at is room =
      let fits = (r.each id d at).closing is in
      let k = fits.2 in
      let n : ℕ = length ds in
      let fresh = k.later d.given (let a = d.given in omega arith) in
      let seat : ℕ → Option ℕ = put_at r.seat d.given (some n) in
      let aside : (p : ℕ) (j : ℕ) → r.seat p ≡ some j → p ≢ d.given = λ p j seated same. some-ne-none j (sym seated ∙ (ap r.seat same ∙ fresh.no_seat)) in
      let old : (j : ℕ) (f : Draws) → get_elem? (set ds id (one_more d)) j ≡ some f → Fits turn start log table seat j f =
      each_set (Fits turn start log table seat) ds id (one_more d)
      (λ j f apart here. let g = r.each j f here in record {
        live = λ l. let h = g.live l in record { seated = put_else r.seat d.given f.session (some n) (aside f.session j h.seated) ∙ h.seated; below = h.below; mine = h.mine; agrees = h.agrees; held = h.held; given = h.given; stand = h.stand };
        closing = λ c. absurd (apart ((g.closing c).1 ∙ sym fits.1));
        holder = g.holder;
        rowless = g.rowless;
        noted = g.noted;
      }) (record {
        live = λ l. absurd (true≢false (sym l ∙ fits.0));
        closing = λ c. (
          fits.0,
          fits.1,
          record {
            few = (omega (arith, room), k.few.1);
            start_is = k.start_is;
            later = λ p le. let a = k.later p (omega (arith, le)) in record {
              no_seat = put_else r.seat d.given p (some n) (λ e. omega (arith, e, le)) ∙ a.no_seat;
              no_entry = a.no_entry;
              no_row = a.no_row;
              no_name = a.no_name;
            };
            back = λ i y there. let a = k.back i y there in let below = a.0 in (omega (arith, below), put_else r.seat d.given y.session (some n) (λ e. omega (arith, e, below)) ∙ a.1, a.2, a.3, a.4, a.5);
            left = each_map (IsLeftRow table r.seat d.given) (IsLeftRow table seat (suc d.given)) (λ row a. let below = a.1 in (a.0, omega (arith, below), put_else r.seat d.given a.0 (some n) (λ e. omega (arith, e, below)) ∙ a.2, a.3)) d.rows k.left;
          },
        );
        holder = λ h. absurd (true≢false (sym ((r.each id d at).holder h) ∙ fits.0));
        rowless = (r.each id d at).rowless;
        noted = (r.each id d at).noted;
      }) in
      record {
        seat = seat;
        legal = r.legal;
        leaves = r.leaves;
        fixed = r.fixed;
        drawn = r.drawn;
        bounded = r.bounded;
        beyond = r.beyond;
        found = r.found;
        each = λ j f here. ⊎_elim (old j f) (λ (t : (j ≡ length (set ds id (one_more d))) × (session_of d ≡ f)).
            subst (λ (y : ℕ × Draws). Fits turn start log table seat y.0 y.1) (λ i. (sym (t.0 ∙ length-set ds id (one_more d)) i, t.1 i)) (record {
              live = λ l. record {
                seated = put_here r.seat d.given (some n);
                below = let few = k.few.1 in omega (arith, room, few);
                mine = fresh.no_entry;
                agrees = record { sizes_are = r.fixed ∙ k.start_is; live = λ name. ap (λ (h : Name → std.Option Function). h name) fresh.no_row; fresh = λ name le. ap (λ (h : Name → Bool). h name) fresh.no_name; cells = λ h. absurd (off h) };
                held = λ h. absurd (off h);
                given = λ name f is. absurd (let a : std.None ≡ std.Some f = sym (ap (λ (h : Name → std.Option Function). h name) fresh.no_row) ∙ is in cc);
                stand = tt;
              };
              closing = λ c. absurd (off c);
              holder = λ h. absurd (off h);
              rowless = λ l c. refl;
              noted = record { noted = tt; placed = tt };
            })) (at_end (set ds id (one_more d)) (session_of d) f j here);
      }

  -- the closing seat takes a session's seat in
  pub joins_it : (id : ℕ) (d : Draws) (other : ℕ) (e : Draws) → get_elem? ds id ≡ some d → ¬ (other ≡ id) → get_elem? (set ds id (with_gone d e)) other ≡ some e → d.closing ≡ true → e.live ≡ true → e.holds ≡ false
      → Journal place turn (set (set ds id (with_gone d e)) other blank) start log table
  joins_it id d other e at apart there is live free =
      let fits = (r.each id d at).closing is in
      let k = fits.2 in
      let at_other : get_elem? ds other ≡ some e = sym (set_else ds id other (with_gone d e) apart) ∙ there in
      let them = mine other e at_other live in
      let seat : ℕ → Option ℕ = put_at r.seat e.session none in
      let given : e.session < d.given = dite (dec_lt e.session d.given) (λ l. l) (λ le. absurd (some-ne-none other (sym them.seated ∙ (k.later e.session (omega (arith, le))).no_seat))) in
      let none_kept : (p : ℕ) → r.seat p ≡ none → seat p ≡ none = λ p a. dite (ℕ_discrete p e.session) (λ same. ap seat same ∙ put_here r.seat e.session none) (λ no-same. put_else r.seat e.session p none no-same ∙ a) in
      let still : (j : ℕ) (f : Draws) → j ≢ other → (f.live ≡ true → LiveFits turn log table r.seat j f) → f.live ≡ true → LiveFits turn log table seat j f =
      λ j f off_other g l. let h = g l in record { seated = put_else r.seat e.session f.session none (λ same. off_other (one_seat j other f e h them same)) ∙ h.seated; below = h.below; mine = h.mine; agrees = h.agrees; held = h.held; given = h.given; stand = h.stand } in
      record {
        seat = seat;
        legal = r.legal;
        leaves = r.leaves;
        fixed = r.fixed;
        drawn = r.drawn;
        bounded = r.bounded;
        beyond = r.beyond;
        found = r.found;
        each = each_set (Fits turn start log table seat) (set ds id (with_gone d e)) other blank
            (λ j f off_other here. each_set (λ i y. i ≢ other → Fits turn start log table seat i y) ds id (with_gone d e)
            (λ i y off_id here' off_other'. let g = r.each i y here' in record { live = still i y off_other' g.live; closing = λ c. absurd (off_id ((g.closing c).1 ∙ sym fits.1)); holder = g.holder; rowless = g.rowless; noted = g.noted })
            (λ off_other'. record {
              live = λ l. absurd (true≢false (sym l ∙ fits.0));
              closing = λ c. (
                fits.0,
                fits.1,
                record {
                  few = k.few;
                  start_is = k.start_is;
                  later = λ p le. let a = k.later p le in record { no_seat = none_kept p a.no_seat; no_entry = a.no_entry; no_row = a.no_row; no_name = a.no_name };
                  back = λ i y lies. ⊎_elim
                      (λ (was : get_elem? d.gone i ≡ some y). let a = k.back i y was in (a.0, none_kept y.session a.1, a.2, a.3, a.4, a.5))
                      (λ (new : gone_of e ≡ y). subst (λ (z : Gone). (z.session < d.given) × (seat z.session ≡ none) × (entries_of z.session log ≡ z.entries) × AgreesAt table.sizes (stands_for z.rows) (table.live z.session) × AreNotedIn start log z.session z.noted z.placed × (table.sizes ≡ sizes_for z.vars z.elements)) new (given, put_here r.seat e.session none, them.mine, them.agrees.live, (r.each other e at_other).noted, them.agrees.sizes_are))
                      (at_snoc d.gone (gone_of e) y i lies);
                  left = each_append (IsLeftRow table seat d.given) d.rows e.rows
                      (each_map (IsLeftRow table r.seat d.given) (IsLeftRow table seat d.given) (λ row a. (a.0, a.1, none_kept a.0 a.2, a.3)) d.rows k.left)
                      (each_map (StandsIn table e.session) (IsLeftRow table seat d.given) (λ row is. (e.session, given, put_here r.seat e.session none, is)) e.rows them.stand);
                },
              );
              holder = (r.each id d at).holder;
              rowless = λ l c. absurd (true≢false (sym is ∙ c));
              noted = (r.each id d at).noted;
            })
            j f here off_other)
            (record { live = λ l. absurd (off l); closing = λ c. absurd (off c); holder = λ h. absurd (off h); rowless = λ l c. refl; noted = record { noted = tt; placed = tt } });
      }

  -- the turn word becomes another, where it was 0
  pub turns : (m : ℕ) → turn ≡ 0 → Journal place m ds start log table
  turns m free = record {
    seat = r.seat;
    legal = r.legal;
    leaves = r.leaves;
    fixed = r.fixed;
    drawn = r.drawn;
    bounded = r.bounded;
    beyond = r.beyond;
    found = r.found;
    each = λ j e here. let f = r.each j e here in record {
      live = λ l. let g = f.live l in record { seated = g.seated; below = g.below; mine = g.mine; agrees = g.agrees; held = λ h. absurd (let z = g.held h in omega (arith, z, free)); given = g.given; stand = g.stand };
      closing = f.closing;
      holder = f.holder;
      rowless = f.rowless;
      noted = f.noted;
    };
  }

  -- what the closing seat is told of the history
  unfoldable pub whole_of : (id : ℕ) (d : Draws) → get_elem? ds id ≡ some d → d.closing ≡ true → (AllBack d → ArePlaced (IsHadAt start log) log) → Whole place (sizes_for d.vars d.elements) d.given d.gone
  whole_of id d at is placed =
      let k = ((r.each id d at).closing is).2 in
      let start_is : sizes_for d.vars d.elements ≡ start = sym k.start_is in record {
        log = log;
        legal = subst (λ (z : Sizes). IsLegal z log) k.start_is r.legal;
        count = sym r.drawn;
        fixed = subst (λ (z : Sizes). (table_after (opening z) log).sizes ≡ z) k.start_is (ap (λ (t : Table). t.sizes) r.leaves ∙ r.fixed);
        found = subst (λ (z : Sizes). EachWith Finds (opening z) (opening_orders z) log) k.start_is r.found;
        placed = λ back. subst (λ (z : Sizes). ArePlaced (IsHadAt z log) log) k.start_is (placed back);
        known = λ i g there. sym (k.back i g there).5 ∙ r.fixed ∙ k.start_is;
        each = λ i g there. (k.back i g there).2;
        rows = λ i g there. subst (λ (t : Table). RowsStand t g) (sym (ap (λ (z : Sizes). table_after (opening z) log) start_is ∙ r.leaves)) (k.back i g there).3;
        beyond = λ p le. (k.later p le).no_entry;
        noted = λ i g there. subst (λ (z : Sizes). AreNotedIn z log g.session g.noted g.placed) k.start_is (k.back i g there).4;
      }

  -- once all have come back, no seat is live
  pub none_live : (id : ℕ) (d : Draws) → get_elem? ds id ≡ some d → d.closing ≡ true → AllBack d → (j : ℕ) (e : Draws) → get_elem? ds j ≡ some e → e.live ≡ false
  none_live id d at is back j e here =
      let k = ((r.each id d at).closing is).2 in
      let no_seat : (p : ℕ) → r.seat p ≡ none = λ p. dite (dec_lt p d.given)
      (λ below. let b = back p below in ap r.seat (sym b.3) ∙ (k.back b.0 b.1 b.2).1)
      (λ above. (k.later p (omega (arith, above))).no_seat) in
      not_true e.live (λ l. some-ne-none j (sym (mine j e here l).seated ∙ no_seat e.session))

  -- two live seats of one session are one
  pub one_session : (i j : ℕ) (d e : Draws) → get_elem? ds i ≡ some d → get_elem? ds j ≡ some e → d.live ≡ true → e.live ≡ true → d.session ≡ e.session → i ≡ j
  one_session i j d e at there l m is = one_seat i j d e (mine i d at l) (mine j e there m) is
