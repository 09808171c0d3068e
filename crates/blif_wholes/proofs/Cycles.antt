-- A cover is settled in its circuit exactly where it is led back by number.
use Rattle.std.proofs.Common.{◌≡◌, ℕ, zero, suc, ◌<◌, ◌&&◌, ◌||◌, not, cond, Bool, true, false, List, [], ◌∷◌, length, Some, inl, inr, refl, ap, sym, ◌∙◌, subst, arith}
use Rattle.std.specs.Prelude.{◌⊎◌, find, slice_get}
use Rattle.std.specs.List.{list_all, list_any}
use Rattle.std.specs.Str.{bytes_eq}
use Rattle.std.proofs.lemmas.Bool.{false≢true, or_left, or_right}
use Rattle.std.proofs.lemmas.Slice.Eq.{bytes_eq-Decides}
use Rattle.job_words.specs.Text.{Word, is_among}
use Rattle.blif_models.specs.Circuits.{Circuit, Cover, defined_in, is_settled, settles}
use Rattle.blif_order.specs.Orders.{is_led, reads_of}
use Rattle.blif_wholes.specs.Arranged.{ReadsOf}
use Rattle.blif_wholes.proofs.Alone.{Alone, found_once, not_input}
use Rattle.blif_wholes.proofs.Networks.{all_at, all_words}

-- one that passes, or each that doesn't
any_here : (p : Cover → Bool) (covers : List Cover) (d : ℕ) (cover : Cover) → slice_get covers d ≡ Some cover → p cover ≡ true → list_any p covers ≡ true
any_here p [] d cover h e = cc
any_here p (x ∷ covers) zero cover h e = let same : x ≡ cover = cc in or_left (p x) (list_any p covers) (ap p same ∙ e)
any_here p (x ∷ covers) (suc d) cover h e = or_right (p x) (list_any p covers) (any_here p covers d cover h e)

pub none_here : (p : Cover → Bool) (covers : List Cover) → ((d : ℕ) (cover : Cover) → slice_get covers d ≡ Some cover → p cover ≡ false) → list_any p covers ≡ false
none_here p [] h = refl
none_here p (x ∷ covers) h = ap (λ b. b || list_any p covers) (h 0 x refl) ∙ none_here p covers (λ d cover e. h (suc d) cover e)

pub some_word : (p : Word → Bool) (words : List Word) (z : Word) → is_among words z ≡ true → p z ≡ false → list_all p words ≡ false
some_word p [] z h e = absurd (false≢true h)
some_word p (word ∷ words) z h e = by_cases (bytes_eq z word) refl (λ k. some_word p words z k e)
  where
    by_and : (b : Bool) → list_all p words ≡ false → (b && list_all p words) ≡ false
    by_and true f = f
    by_and false f = refl

    by_cases : (b : Bool) → bytes_eq z word ≡ b → (is_among words z ≡ true → list_all p words ≡ false) → list_all p (word ∷ words) ≡ false
    by_cases true f more = ap (λ b. b && list_all p words) (ap p (sym ((bytes_eq-Decides z word).0 f)) ∙ e)
    by_cases false f more = by_and (p word) (more (sym (ap (λ b. b || is_among words z) f) ∙ h))

-- one number of a list that does not pass
some_number : (p : ℕ → Bool) (xs : List ℕ) → list_all p xs ≡ false → (j d : ℕ) × (slice_get xs j ≡ Some d) × (p d ≡ false)
some_number p [] h = absurd (false≢true (sym h))
some_number p (x ∷ xs) h = by_cases (p x) refl h (λ k. some_number p xs k)
  where
    by_cases : (b : Bool) → p x ≡ b → (b && list_all p xs) ≡ false → (list_all p xs ≡ false → (j d : ℕ) × (slice_get xs j ≡ Some d) × (p d ≡ false)) → (j d : ℕ) × (slice_get (x ∷ xs) j ≡ Some d) × (p d ≡ false)
    by_cases false f k more = (0, x, refl, f)
    by_cases true f k more = let rest = more k in (suc rest.0, rest.1, rest.2, rest.3)

-- what a cover that is led back reads settles
pub led_settles : (circuit : Circuit) (reads : List (List ℕ)) → ReadsOf circuit reads → (limit c : ℕ) (cover : Cover) → slice_get circuit.covers c ≡ Some cover → is_led reads (suc limit) c ≡ true
    → list_all (settles circuit limit) cover.ins ≡ true
unfolding is_led settles
led_settles circuit reads r zero c cover at h = all_words (settles circuit zero) cover.ins (λ z e. by_kind z (r.onward c cover z at e))
  where
    by_kind : (z : Word) → (is_among circuit.inputs z ≡ true) ⊎ ((d j : ℕ) × (other : Cover) × (slice_get (reads_of reads c) j ≡ Some d) × (slice_get circuit.covers d ≡ Some other) × (z ≡ other.name))
        → is_among circuit.inputs z ≡ true
    by_kind z (inl e) = e
    by_kind z (inr (d, j, other, read, place, name)) = absurd (false≢true (all_at (is_led reads zero) (reads_of reads c) j d h read))
led_settles circuit reads r (suc limit) c cover at h = all_words (settles circuit (suc limit)) cover.ins (λ z e. by_kind z (r.onward c cover z at e) (λ d other place led. led_settles circuit reads r limit d other place led))
  where
    by_kind : (z : Word) → (is_among circuit.inputs z ≡ true) ⊎ ((d j : ℕ) × (other : Cover) × (slice_get (reads_of reads c) j ≡ Some d) × (slice_get circuit.covers d ≡ Some other) × (z ≡ other.name))
        → ((d : ℕ) (other : Cover) → slice_get circuit.covers d ≡ Some other → is_led reads (suc limit) d ≡ true → list_all (settles circuit limit) other.ins ≡ true)
        → (is_among circuit.inputs z || list_any (λ one. bytes_eq z one.name && list_all (settles circuit limit) one.ins) circuit.covers) ≡ true
    by_kind z (inl e) more = or_left (is_among circuit.inputs z) (list_any (λ one. bytes_eq z one.name && list_all (settles circuit limit) one.ins) circuit.covers) e
    by_kind z (inr (d, j, other, read, place, name)) more =
        or_right (is_among circuit.inputs z) (list_any (λ one. bytes_eq z one.name && list_all (settles circuit limit) one.ins) circuit.covers)
        (any_here (λ one. bytes_eq z one.name && list_all (settles circuit limit) one.ins) circuit.covers d other place
        (ap (λ b. b && list_all (settles circuit limit) other.ins) ((bytes_eq-Decides z other.name).1 name) ∙ more d other place (all_at (is_led reads (suc limit)) (reads_of reads c) j d h read)))

-- the one cover of a name
only_cover : (circuit : Circuit) (d e : ℕ) (one other : Cover) → Alone circuit.inputs (defined_in circuit.covers) → slice_get circuit.covers d ≡ Some one → slice_get circuit.covers e ≡ Some other
    → bytes_eq one.name other.name ≡ true → one ≡ other
only_cover circuit d e one other a h k same =
    let name : one.name ≡ other.name = (bytes_eq-Decides one.name other.name).0 same in
    let both : Some one ≡ Some other =
    sym (found_once circuit.covers d one a.covers h) ∙ ap (λ z. find (λ (cover : Cover). bytes_eq z cover.name) circuit.covers) name ∙ found_once circuit.covers e other a.covers k in
    cc

pub by_name : (circuit : Circuit) (d e : ℕ) (one other : Cover) (limit : ℕ) → Alone circuit.inputs (defined_in circuit.covers) → slice_get circuit.covers d ≡ Some one → slice_get circuit.covers e ≡ Some other
    → list_all (settles circuit limit) one.ins ≡ false → (b : Bool) → bytes_eq one.name other.name ≡ b → (bytes_eq one.name other.name && list_all (settles circuit limit) other.ins) ≡ false
by_name circuit d e one other limit a h k stops false f = ap (λ b. b && list_all (settles circuit limit) other.ins) f
by_name circuit d e one other limit a h k stops true f =
    ap (λ b. b && list_all (settles circuit limit) other.ins) f ∙ subst (λ (t : Cover). list_all (settles circuit limit) t.ins ≡ false) (only_cover circuit d e one other a h k f) stops

-- what a cover that isn't led back reads doesn't settle
pub not_led_settles : (circuit : Circuit) (reads : List (List ℕ)) → ReadsOf circuit reads → Alone circuit.inputs (defined_in circuit.covers) → (limit c : ℕ) (cover : Cover) → slice_get circuit.covers c ≡ Some cover
    → is_led reads (suc limit) c ≡ false → list_all (settles circuit limit) cover.ins ≡ false
unfolding is_led settles
not_led_settles circuit reads r a zero c cover at h = from_read (some_number (is_led reads zero) (reads_of reads c) h)
  where
    from_read : (j d : ℕ) × (slice_get (reads_of reads c) j ≡ Some d) × (is_led reads zero d ≡ false) → list_all (settles circuit zero) cover.ins ≡ false
    from_read (j, d, read, led) =
        let o = r.back c d j cover at read in
        some_word (settles circuit zero) cover.ins (o.0).name o.2 (not_input circuit d o.0 a o.1)
not_led_settles circuit reads r a (suc limit) c cover at h = from_read (some_number (is_led reads (suc limit)) (reads_of reads c) h) (λ d other place led. not_led_settles circuit reads r a limit d other place led)
  where
    from_read : (j d : ℕ) × (slice_get (reads_of reads c) j ≡ Some d) × (is_led reads (suc limit) d ≡ false)
        → ((d : ℕ) (other : Cover) → slice_get circuit.covers d ≡ Some other → is_led reads (suc limit) d ≡ false → list_all (settles circuit limit) other.ins ≡ false)
        → list_all (settles circuit (suc limit)) cover.ins ≡ false
    from_read (j, d, read, led) more =
        let o = r.back c d j cover at read in
        some_word (settles circuit (suc limit)) cover.ins (o.0).name o.2
        (ap (λ b. b || list_any (λ one. bytes_eq (o.0).name one.name && list_all (settles circuit limit) one.ins) circuit.covers) (not_input circuit d o.0 a o.1)
        ∙ none_here (λ one. bytes_eq (o.0).name one.name && list_all (settles circuit limit) one.ins) circuit.covers
        (λ e one place. by_name circuit d e o.0 one limit a o.1 place (more d o.0 o.1 led) (bytes_eq (o.0).name one.name) refl))

-- the first that doesn't pass
find_at : (p : Cover → Bool) (covers : List Cover) (c : ℕ) (cover : Cover) → slice_get covers c ≡ Some cover → p cover ≡ true → ((d : ℕ) (one : Cover) → d < c → slice_get covers d ≡ Some one → p one ≡ false)
    → find p covers ≡ Some cover
find_at p [] c cover h e before = cc
find_at p (x ∷ covers) zero cover h e before = let same : x ≡ cover = cc in ap (λ b. cond b (Some x) (find p covers)) (ap p same ∙ e) ∙ ap Some same
find_at p (x ∷ covers) (suc c) cover h e before =
    ap (λ b. cond b (Some x) (find p covers)) (before 0 x (omega arith) refl) ∙ find_at p covers c cover h e (λ d one lt k. before (suc d) one (omega (arith, lt)) k)

-- the cover that a walk caught is the first that isn't settled
pub first_cyclic : (circuit : Circuit) (reads : List (List ℕ)) (root : ℕ) (cover : Cover) → ReadsOf circuit reads → Alone circuit.inputs (defined_in circuit.covers) → slice_get circuit.covers root ≡ Some cover
    → ((limit : ℕ) → is_led reads limit root ≡ false) → ((c : ℕ) → c < root → is_led reads (suc (length circuit.covers)) c ≡ true)
    → find (λ (one : Cover). not (is_settled circuit one)) circuit.covers ≡ Some cover
first_cyclic circuit reads root cover r a at never before =
    find_at (λ (one : Cover). not (is_settled circuit one)) circuit.covers root cover at
    (ap not (not_led_settles circuit reads r a (length circuit.covers) root cover at (never (suc (length circuit.covers)))))
    (λ d one lt k. ap not (led_settles circuit reads r (length circuit.covers) d one k (before d lt)))
