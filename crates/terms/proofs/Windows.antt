-- The list of windows is what the law of cutting says, and has exactly the windows of the relation.
use Rattle.std.proofs.Common.{◌≡◌, ℕ, ◌+◌, ◌-◌, ◌<◌, ◌≤◌, List, [], ◌∷◌, ◌++◌, length, get_or, take, drop, Contains, sym, refl, ap, ◌∙◌, subst, inl, inr, ⊎_elim, arith, length-append, length-drop, take-append-drop}
use Rattle.std.proofs.lemmas.List.FromFn.{length-map-range_with_len, get_or-map-range_with_len}
use Rattle.std.proofs.lemmas.List.{same_lists, length-take-le, take_at, drop_at, get_or_default}
use Rattle.std.proofs.lemmas.Bool.{le-leb, lt-leb, cases_lt}
use Rattle.terms.specs.Words.{RunAt, Cuts, run, runs, windows, WindowOf}

pub windows_short : (k : ℕ) (w : List ℕ) → length w ≤ k → windows k w ≡ w ∷ []
windows_short k w h = rw (le-leb (length w) k h)

pub windows_long : (k : ℕ) (w : List ℕ) → k < length w → windows k w ≡ runs k w
windows_long k w h = rw (lt-leb (length w) k h)

pub length_runs : (k : ℕ) (w : List ℕ) → length (runs k w) ≡ length w + 1 - k
length_runs k w = length-map-range_with_len (run k w) 0 (length w + 1 - k)

pub getD_runs : (k : ℕ) (w : List ℕ) (p : ℕ) (d : List ℕ) → p < length w + 1 - k → get_or (runs k w) p d ≡ run k w p
getD_runs k w p d h = get_or-map-range_with_len (run k w) 0 (length w + 1 - k) p p d h (omega arith)

-- what stands at a place is the run there
pub run_at : (k : ℕ) (w : List ℕ) (p : ℕ) → p + k ≤ length w → RunAt w k p (run k w p)
run_at k w p h = record {
  before = take p w;
  after = drop k (drop p w);
  split = sym (take-append-drop p w) ∙ ap (λ l. take p w ++ l) (sym (take-append-drop k (drop p w)));
  place = length-take-le p w (omega arith);
  long = length-take-le k (drop p w) (rw length-drop (omega arith));
}

pub run_is : {k p : ℕ} {w u : List ℕ} → RunAt w k p u → u ≡ run k w p
run_is {k} {p} {w} {u} r =
    sym (take_at u r.after k r.long) ∙ ap (take k) (sym (ap (drop p) r.split ∙ drop_at r.before (u ++ r.after) p r.place))

-- the law of cutting holds of the list of windows
pub cuts_windows : (k : ℕ) (w : List ℕ) → Cuts k w (windows k w)
cuts_windows k w = record {
  short = windows_short k w;
  places = λ h. rw (windows_long k w h) (rw (length_runs k w) (omega arith));
  runs = λ h p l.
      let long : length (windows k w) ≡ length w + 1 - k = ap length (windows_long k w h) ∙ length_runs k w in
      let here : get_or (windows k w) p [] ≡ run k w p = ap (λ ws. get_or ws p []) (windows_long k w h) ∙ getD_runs k w p [] (omega arith) in
      subst (RunAt w k p) (sym here) (run_at k w p (omega arith));
}

pub cuts_from_windows : (k : ℕ) (w : List ℕ) (ws : List (List ℕ)) → ws ≡ windows k w → Cuts k w ws
cuts_from_windows k w ws e = subst (Cuts k w) (sym e) (cuts_windows k w)

-- and of no other list
pub windows_from_cuts : (k : ℕ) (w : List ℕ) (ws : List (List ℕ)) → Cuts k w ws → ws ≡ windows k w
windows_from_cuts k w ws c =
    ⊎_elim
    (λ long.
    let many : length ws ≡ length w + 1 - k = c.places long ∙ omega arith in
    same_lists ws (windows k w) (many ∙ sym (ap length (windows_long k w long) ∙ length_runs k w))
    (λ p d l. get_or_default ws p d [] l ∙ run_is (c.runs long p l) ∙ sym (ap (λ vs. get_or vs p d) (windows_long k w long) ∙ getD_runs k w p d (omega arith))))
    (λ short. c.short short ∙ sym (windows_short k w short))
    (cases_lt k (length w))

-- a window of the list stands at some place, and what stands at a place is a window
pub window_has : (k : ℕ) (w u : List ℕ) → WindowOf k w u → Contains (windows k w) u
window_has k w u (inl (h, e)) = rw (windows_short k w h) (0, omega arith, sym e)
window_has k w u (inr (h, long, (before, after, split))) =
    let total : length w ≡ length before + (length u + length after) = ap length split ∙ length-append before (u ++ after) ∙ ap (λ m. length before + m) (length-append u after) in
    let at : RunAt w k (length before) u = record { before = before; after = after; split = split; place = refl; long = long } in
    rw (windows_long k w h) (length before, rw (length_runs k w) (omega arith), getD_runs k w (length before) u (omega arith) ∙ sym (run_is at))

pub has_window : (k : ℕ) (w u : List ℕ) → Contains (windows k w) u → WindowOf k w u
has_window k w u (p, l, at) =
    ⊎_elim
    (λ long.
    let many : length (windows k w) ≡ length w + 1 - k = ap length (windows_long k w long) ∙ length_runs k w in
    let r : RunAt w k p u = subst (RunAt w k p) (get_or_default (windows k w) p [] u l ∙ at) ((cuts_windows k w).runs long p l) in
    inr (long, r.long, (r.before, r.after, r.split)))
    (λ short.
    let one : p ≡ 0 = omega (arith, ap length (windows_short k w short)) in
    inl (short, sym (get_or_default (windows k w) p w u l ∙ at) ∙ ap (λ ws. get_or ws p w) (windows_short k w short) ∙ ap (λ q. get_or (w ∷ []) q w) one))
    (cases_lt k (length w))

pub members_from_windows : (k : ℕ) (w : List ℕ) (ws : List (List ℕ)) → ws ≡ windows k w → (u : List ℕ) → (Contains ws u → WindowOf k w u) × (WindowOf k w u → Contains ws u)
members_from_windows k w ws e u = (λ has. has_window k w u (subst (λ vs. Contains vs u) e has), λ of. subst (λ vs. Contains vs u) (sym e) (window_has k w u of))
