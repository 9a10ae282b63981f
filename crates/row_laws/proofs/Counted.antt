-- How many windows are playable, and whether the rows have room, by the count of the held keys.
use Rattle.std.proofs.Common.{◌≡◌, ℕ, ◌*◌, ◌^◌, ◌<◌, ◌≤◌, List, ◌∷◌, map, length, Contains, ap, ◌∙◌, inl, inr, ⊎_elim, mul-le-mul_right, add-mul, arith}
use Rattle.std.specs.Int.Digits.{digits_of}
use Rattle.std.proofs.lemmas.List.Elements.{All-cons, All-contains_itself, All-weaker}
use Rattle.std.proofs.lemmas.List.{length-map}
use Rattle.terms.specs.Codes.{base, code, item}
use Rattle.terms.specs.Words.{IsWindow, Moves}
use Rattle.terms.proofs.Codes.{code_below, word_of_code}
use Rattle.racks.specs.Views.{held_count}
use Rattle.tree_laws.specs.declared.Node.{Node}
use Rattle.tree_laws.specs.Routes.{WellFormed}
use Rattle.tree_laws.proofs.Computed.{bits_at}
use Rattle.tree_laws.proofs.Windows.{node_laws_lem}
use Rattle.row_laws.specs.Lists.{Distinct}
use Rattle.row_laws.specs.Rows.{key_limit, WindowRow, HasRow, RowsAt, MoreRows, ListsPlayable, PlayableCount}
use Rattle.row_laws.proofs.Keys.{code_of_moves}
use Rattle.row_laws.proofs.Distinct.{distinct_fits, keys_below, keys_below_held, has_keys_below, distinct_keys_below, length_keys_below, held_fits, has_map, map_has, distinct_map}
use Rattle.row_laws.proofs.WithMarks.{window_word, playable_window}
use Rattle.row_laws.proofs.Windowed.{node_key_high}

-- the word of a code
abbrev word_at : ℕ → ℕ → List ℕ
word_at n c = map (item n) (digits_of (base n) c)

-- two lists without repeats of the playable windows are equally long
same_count : (t : List Node) (k : ℕ) (xs ys : List (List ℕ)) → Distinct xs → Distinct ys → ListsPlayable t k xs → ListsPlayable t k ys → length xs ≡ length ys
same_count t k xs ys dx dy lx ly =
    omega (arith, distinct_fits xs ys dx (λ u h. (ly u).1 ((lx u).0 h)), distinct_fits ys xs dy (λ u h. (lx u).1 ((ly u).0 h)))

module _ (n k : ℕ) (t : List Node) (few : n ≤ 12) (wide : 2 ≤ k) (wf : WellFormed n t) where
  word_at_code : (x : List ℕ) → IsWindow n k x → word_at n (code n x) ≡ x
  word_at_code x is = word_of_code n few x (window_word n k x few wide is).items

  window_below : (x : List ℕ) → IsWindow n k x → code n x < base n ^ k
  window_below x is = code_below n few k x (window_word n k x few wide is)

  word_at_key : {key : ℕ} (r : WindowRow n k t key) → word_at n key ≡ r.window
  word_at_key r = rw r.key_is (word_at_code r.window r.is_window)

  module _ {f : ℕ → ℕ} (rows : RowsAt n k t f) where
    abbrev keys : List ℕ
    keys = keys_below f (base n ^ k)

    abbrev words : List (List ℕ)
    words = map (word_at n) keys

    -- a held key below the base's power is the code of a playable window
    low_row : (key : ℕ) → Contains keys key → WindowRow n k t key
    low_row key h =
        let (low, held) = keys_below_held f (base n ^ k) key h in
        ⊎_elim (λ r. absurd (omega (arith, r.key_is, node_key_high n k r.node r.word r.from_one))) (λ r. r)
        (rows.only key held)

    low_key : (key : ℕ) → Contains keys key → key ≡ code n (word_at n key)
    low_key key h = let r = low_row key h in cc (r.key_is, word_at_key r)

    low_distinct : Distinct words
    low_distinct = distinct_map (word_at n) keys (λ a b ha hb e. cc (low_key a ha, low_key b hb)) (distinct_keys_below f (base n ^ k))

    low_playable : ListsPlayable t k words
    low_playable u = (
      λ h.
          let (key, has, e) = map_has (word_at n) keys u h in
          let r = low_row key has in
          rw (← e, word_at_key r) r.playable,
      λ p.
          let is = playable_window n k few wide t wf u p in
          rw (word_at_code u is) at (has_map (word_at n) keys (code n u)
          (has_keys_below f (base n ^ k) (code n u) (window_below u is) (omega (arith, rows.played u is p)))),
    )

    low_long : length words ≡ held_count f (base n ^ k)
    low_long = length-map keys (word_at n) ∙ length_keys_below f (base n ^ k)

    -- as many windows are playable as keys below the base's power are held
    pub count_playable : PlayableCount t k (held_count f (base n ^ k))
    count_playable = record {
      windows = words;
      distinct = low_distinct;
      lists = low_playable;
      long = low_long;
      any = λ ws apart lists. same_count t k ws words apart low_distinct lists low_playable ∙ low_long;
    }

    -- the key of a row is held, and below the limit
    pub row_held : (key : ℕ) → HasRow n k t key → (key < key_limit n k t) × (0 < f key)
    row_held key (inl r) =
        let moves : Moves n r.word = (node_laws_lem n t wf r.node r.from_one r.inside).moves r.word r.contained in
        let bits = bits_at t r.node r.word _ (rows.standings r.node r.word r.from_one r.inside moves r.short) in
        let scaled : r.node * base n ^ k ≤ length t * base n ^ k = mul-le-mul_right (base n ^ k) r.inside in
        (omega (arith, scaled, r.key_is, add-mul (length t) 1 (base n ^ k), code_of_moves n k few r.word moves r.short), grind (arith, bits.none.0, r.contained, r.key_is))
    row_held key (inr r) = (
      omega (arith, r.key_is, add-mul (length t) 1 (base n ^ k), window_below r.window r.is_window),
      omega (arith, ap f r.key_is, rows.played r.window r.is_window r.playable),
    )

    -- a tree whose rows have room has no more rows than the room
    pub rows_fit : {room : ℕ} (reach : ℕ) → held_count f reach ≤ room → key_limit n k t ≤ reach → MoreRows n k t room → ⊥
    rows_fit reach fits wide_reach m =
        let held = All-weaker (HasRow n k t) (λ key. (key < reach) × (0 < f key)) (λ key r. grind (arith, row_held key r)) m.keys m.rows in
        omega (arith, m.more, held_fits f reach m.keys m.distinct held)

-- a row that is not held, beside as many held rows as the room, is one too many
pub more_rows : {n k : ℕ} {t : List Node} {f : ℕ → ℕ} {new room : ℕ} (reach : ℕ) → ((key : ℕ) → 0 < f key → HasRow n k t key) → HasRow n k t new → f new ≡ 0 → room ≤ held_count f reach → MoreRows n k t room
more_rows {n} {k} {t} {f} {new} {room} reach rows row free used =
    let others = All-weaker _ (HasRow n k t) (λ key h. rows key (keys_below_held f reach key h).1) _ (All-contains_itself (keys_below f reach)) in
    record {
      keys = new ∷ keys_below f reach;
      distinct = (λ h. omega (arith, (keys_below_held f reach new h).1), distinct_keys_below f reach);
      rows = All-cons (HasRow n k t) new (keys_below f reach) row others;
      more = omega (arith, length_keys_below f reach);
    }
