-- The constant tables that the search walks. The trellis' own are those of trellis.rs; the others are made from them by `Encoder::with_rule`
-- of encoder.rs: the eight sets of middle bytes, the middle entry of each branch, and the point of least norm of each end region.
-- The idea of the sets: the sixteen middle bytes out of a state are one of eight sets, and eight states share
-- each. So a middle byte is searched once per class, as one entry, and not once for each state that leads to
-- it.
use Rattle.std.specs.Prelude.{cond, List, [], ◌∷◌, ℕ, ◌+◌, ◌*◌, ◌/◌, ◌%◌, get_or, eqb}
use Rattle.laws.specs.Words.{tab}
use Rattle.rank.specs.Vector.{bound_cost, bound_cut, middle_cost, middle_cut}
use Rattle.trellis.specs.Tables.{prefixes, middles, nexts, suffixes}
use Rattle.trellis.specs.Trellis.{middle_sets}
use Rattle.search.specs.declared.Closed.{Closed}
use Rattle.search.specs.Bound.{lex_num}

pub record Tables : Type 0 where
  pub pre : List ℕ  -- at 2 s8 + b1: a byte of the first section
  pub mid : List ℕ  -- at 16 s8 + b2: a byte of the middle section
  pub nxt : List ℕ  -- at 16 s8 + b2: the state s16 that the branch reaches
  pub suf : List ℕ  -- at 2 s16 + b3: a byte of the last section
  pub sets : List ℕ  -- at a middle entry: its byte. The eight sets stand in the order in which the states first have them
  pub ix : List ℕ  -- at 16 s8 + b2: the middle entry of the branch
  pub fb_byte : List ℕ  -- at ((kind * 2 + p) * 2 + r) * 64 + state: byte and packed row of the point of least norm
  pub fb_key : List ℕ
  pub class0 : Closed
  pub class1 : Closed
  pub mixed : Closed

-- the bound of class r
abbrev pub class_of : Tables → ℕ → Closed
class_of g r = cond (eqb r 0) g.class0 g.class1

-- the bytes of an end state, b = 0 or 1: prefixes at the first end, kind 0, suffixes at the last
abbrev pub end_byte : Tables → ℕ → ℕ → ℕ → ℕ
end_byte g kind st b = cond (eqb kind 0) (get_or g.pre (2 * st + b) 0) (get_or g.suf (2 * st + b) 0)

abbrev pub fallback_at : ℕ → ℕ → ℕ → ℕ → ℕ
fallback_at kind p r st = ((kind * 2 + p) * 2 + r) * 64 + st

-- the middle entry of each branch: b2 of the state's set
unfoldable pub branch_entries : List ℕ
branch_entries = tab (λ (i : ℕ). 16 * (i / 128) + i % 16) 1024

-- the point of least norm of each end region, ties to the smaller point: its byte and its packed row
unfoldable pub fallback_bytes : List ℕ
fallback_bytes =
    0 ∷ 209 ∷ 165 ∷ 139 ∷ 51 ∷ 29 ∷ 105 ∷ 71 ∷ 225 ∷ 48 ∷ 68 ∷ 149 ∷ 45 ∷ 3 ∷ 136 ∷ 89
    ∷ 99 ∷ 77 ∷ 57 ∷ 23 ∷ 80 ∷ 129 ∷ 10 ∷ 36 ∷ 130 ∷ 83 ∷ 39 ∷ 9 ∷ 177 ∷ 96 ∷ 20 ∷ 197
    ∷ 135 ∷ 169 ∷ 34 ∷ 12 ∷ 75 ∷ 101 ∷ 17 ∷ 192 ∷ 153 ∷ 72 ∷ 195 ∷ 18 ∷ 85 ∷ 132 ∷ 15 ∷ 33
    ∷ 27 ∷ 53 ∷ 65 ∷ 144 ∷ 40 ∷ 6 ∷ 141 ∷ 163 ∷ 5 ∷ 43 ∷ 160 ∷ 113 ∷ 201 ∷ 24 ∷ 147 ∷ 66
    ∷ 0 ∷ 209 ∷ 165 ∷ 139 ∷ 51 ∷ 29 ∷ 105 ∷ 71 ∷ 225 ∷ 48 ∷ 68 ∷ 149 ∷ 45 ∷ 3 ∷ 136 ∷ 89
    ∷ 99 ∷ 77 ∷ 57 ∷ 23 ∷ 80 ∷ 129 ∷ 10 ∷ 36 ∷ 130 ∷ 83 ∷ 39 ∷ 9 ∷ 177 ∷ 96 ∷ 20 ∷ 197
    ∷ 135 ∷ 169 ∷ 34 ∷ 12 ∷ 75 ∷ 101 ∷ 17 ∷ 192 ∷ 153 ∷ 72 ∷ 195 ∷ 18 ∷ 85 ∷ 132 ∷ 15 ∷ 33
    ∷ 27 ∷ 53 ∷ 65 ∷ 144 ∷ 40 ∷ 6 ∷ 141 ∷ 163 ∷ 5 ∷ 43 ∷ 160 ∷ 113 ∷ 201 ∷ 24 ∷ 147 ∷ 66
    ∷ 255 ∷ 209 ∷ 165 ∷ 139 ∷ 51 ∷ 29 ∷ 105 ∷ 71 ∷ 225 ∷ 207 ∷ 187 ∷ 149 ∷ 45 ∷ 3 ∷ 119 ∷ 89
    ∷ 99 ∷ 77 ∷ 57 ∷ 23 ∷ 175 ∷ 129 ∷ 245 ∷ 219 ∷ 125 ∷ 83 ∷ 39 ∷ 9 ∷ 177 ∷ 159 ∷ 235 ∷ 197
    ∷ 135 ∷ 169 ∷ 221 ∷ 243 ∷ 75 ∷ 101 ∷ 17 ∷ 63 ∷ 153 ∷ 183 ∷ 195 ∷ 237 ∷ 85 ∷ 123 ∷ 15 ∷ 33
    ∷ 27 ∷ 53 ∷ 65 ∷ 111 ∷ 215 ∷ 249 ∷ 141 ∷ 163 ∷ 5 ∷ 43 ∷ 95 ∷ 113 ∷ 201 ∷ 231 ∷ 147 ∷ 189
    ∷ 0 ∷ 46 ∷ 90 ∷ 116 ∷ 204 ∷ 226 ∷ 150 ∷ 184 ∷ 30 ∷ 48 ∷ 68 ∷ 106 ∷ 210 ∷ 252 ∷ 136 ∷ 166
    ∷ 156 ∷ 178 ∷ 198 ∷ 232 ∷ 80 ∷ 126 ∷ 10 ∷ 36 ∷ 130 ∷ 172 ∷ 216 ∷ 246 ∷ 78 ∷ 96 ∷ 20 ∷ 58
    ∷ 120 ∷ 86 ∷ 34 ∷ 12 ∷ 180 ∷ 154 ∷ 238 ∷ 192 ∷ 102 ∷ 72 ∷ 60 ∷ 18 ∷ 170 ∷ 132 ∷ 240 ∷ 222
    ∷ 228 ∷ 202 ∷ 190 ∷ 144 ∷ 40 ∷ 6 ∷ 114 ∷ 92 ∷ 250 ∷ 212 ∷ 160 ∷ 142 ∷ 54 ∷ 24 ∷ 108 ∷ 66
    ∷ 0 ∷ 3 ∷ 5 ∷ 6 ∷ 9 ∷ 10 ∷ 12 ∷ 15 ∷ 17 ∷ 18 ∷ 20 ∷ 23 ∷ 24 ∷ 27 ∷ 29 ∷ 225
    ∷ 33 ∷ 34 ∷ 36 ∷ 39 ∷ 40 ∷ 43 ∷ 45 ∷ 209 ∷ 48 ∷ 51 ∷ 53 ∷ 201 ∷ 57 ∷ 197 ∷ 195 ∷ 192
    ∷ 65 ∷ 66 ∷ 68 ∷ 71 ∷ 72 ∷ 75 ∷ 77 ∷ 177 ∷ 80 ∷ 83 ∷ 85 ∷ 169 ∷ 89 ∷ 165 ∷ 163 ∷ 160
    ∷ 96 ∷ 99 ∷ 101 ∷ 153 ∷ 105 ∷ 149 ∷ 147 ∷ 144 ∷ 113 ∷ 141 ∷ 139 ∷ 136 ∷ 135 ∷ 132 ∷ 130 ∷ 129
    ∷ 0 ∷ 3 ∷ 5 ∷ 6 ∷ 9 ∷ 10 ∷ 12 ∷ 15 ∷ 17 ∷ 18 ∷ 20 ∷ 23 ∷ 24 ∷ 27 ∷ 29 ∷ 225
    ∷ 33 ∷ 34 ∷ 36 ∷ 39 ∷ 40 ∷ 43 ∷ 45 ∷ 209 ∷ 48 ∷ 51 ∷ 53 ∷ 201 ∷ 57 ∷ 197 ∷ 195 ∷ 192
    ∷ 65 ∷ 66 ∷ 68 ∷ 71 ∷ 72 ∷ 75 ∷ 77 ∷ 177 ∷ 80 ∷ 83 ∷ 85 ∷ 169 ∷ 89 ∷ 165 ∷ 163 ∷ 160
    ∷ 96 ∷ 99 ∷ 101 ∷ 153 ∷ 105 ∷ 149 ∷ 147 ∷ 144 ∷ 113 ∷ 141 ∷ 139 ∷ 136 ∷ 135 ∷ 132 ∷ 130 ∷ 129
    ∷ 255 ∷ 3 ∷ 5 ∷ 249 ∷ 9 ∷ 245 ∷ 243 ∷ 15 ∷ 17 ∷ 237 ∷ 235 ∷ 23 ∷ 231 ∷ 27 ∷ 29 ∷ 225
    ∷ 33 ∷ 221 ∷ 219 ∷ 39 ∷ 215 ∷ 43 ∷ 45 ∷ 209 ∷ 207 ∷ 51 ∷ 53 ∷ 201 ∷ 57 ∷ 197 ∷ 195 ∷ 63
    ∷ 65 ∷ 189 ∷ 187 ∷ 71 ∷ 183 ∷ 75 ∷ 77 ∷ 177 ∷ 175 ∷ 83 ∷ 85 ∷ 169 ∷ 89 ∷ 165 ∷ 163 ∷ 95
    ∷ 159 ∷ 99 ∷ 101 ∷ 153 ∷ 105 ∷ 149 ∷ 147 ∷ 111 ∷ 113 ∷ 141 ∷ 139 ∷ 119 ∷ 135 ∷ 123 ∷ 125 ∷ 129
    ∷ 0 ∷ 252 ∷ 250 ∷ 6 ∷ 246 ∷ 10 ∷ 12 ∷ 240 ∷ 238 ∷ 18 ∷ 20 ∷ 232 ∷ 24 ∷ 228 ∷ 226 ∷ 30
    ∷ 222 ∷ 34 ∷ 36 ∷ 216 ∷ 40 ∷ 212 ∷ 210 ∷ 46 ∷ 48 ∷ 204 ∷ 202 ∷ 54 ∷ 198 ∷ 58 ∷ 60 ∷ 192
    ∷ 190 ∷ 66 ∷ 68 ∷ 184 ∷ 72 ∷ 180 ∷ 178 ∷ 78 ∷ 80 ∷ 172 ∷ 170 ∷ 86 ∷ 166 ∷ 90 ∷ 92 ∷ 160
    ∷ 96 ∷ 156 ∷ 154 ∷ 102 ∷ 150 ∷ 106 ∷ 108 ∷ 144 ∷ 142 ∷ 114 ∷ 116 ∷ 136 ∷ 120 ∷ 132 ∷ 130 ∷ 126 ∷ []

unfoldable pub fallback_keys : List ℕ
fallback_keys =
    0 ∷ 285278209 ∷ 269484289 ∷ 268439569 ∷ 1114129 ∷ 69889 ∷ 17829889 ∷ 16777489
    ∷ 286261249 ∷ 1114112 ∷ 16777472 ∷ 268501249 ∷ 1052929 ∷ 17 ∷ 268439552 ∷ 16846849
    ∷ 17825809 ∷ 16781569 ∷ 1118209 ∷ 65809 ∷ 16842752 ∷ 268435457 ∷ 4112 ∷ 1048832
    ∷ 268435472 ∷ 16842769 ∷ 1048849 ∷ 4097 ∷ 269549569 ∷ 17825792 ∷ 65792 ∷ 285212929
    ∷ 268435729 ∷ 269488129 ∷ 1048592 ∷ 4352 ∷ 16781329 ∷ 17826049 ∷ 65537 ∷ 285212672
    ∷ 268505089 ∷ 16781312 ∷ 285212689 ∷ 65552 ∷ 16843009 ∷ 268435712 ∷ 4369 ∷ 1048577
    ∷ 69649 ∷ 1114369 ∷ 16777217 ∷ 268500992 ∷ 1052672 ∷ 272 ∷ 268439809 ∷ 269484049
    ∷ 257 ∷ 1052689 ∷ 269484032 ∷ 17891329 ∷ 285216769 ∷ 69632 ∷ 268501009 ∷ 16777232
    ∷ 2 ∷ 16842753 ∷ 1048833 ∷ 4113 ∷ 65553 ∷ 4353 ∷ 1052673 ∷ 273
    ∷ 17825793 ∷ 65536 ∷ 256 ∷ 65793 ∷ 4353 ∷ 1 ∷ 4096 ∷ 69633
    ∷ 1048593 ∷ 4353 ∷ 69633 ∷ 273 ∷ 65536 ∷ 1 ∷ 16 ∷ 256
    ∷ 16 ∷ 65553 ∷ 273 ∷ 1 ∷ 1114113 ∷ 1048576 ∷ 256 ∷ 16777473
    ∷ 273 ∷ 1052673 ∷ 16 ∷ 256 ∷ 4113 ∷ 1048833 ∷ 1 ∷ 16777216
    ∷ 69633 ∷ 4096 ∷ 16777233 ∷ 16 ∷ 65793 ∷ 256 ∷ 273 ∷ 1
    ∷ 4113 ∷ 65793 ∷ 1 ∷ 65536 ∷ 4096 ∷ 16 ∷ 4353 ∷ 1048593
    ∷ 1 ∷ 4113 ∷ 1048576 ∷ 1114113 ∷ 16781313 ∷ 4096 ∷ 65553 ∷ 16
    ∷ 0 ∷ 0 ∷ 0 ∷ 0 ∷ 0 ∷ 0 ∷ 0 ∷ 0
    ∷ 0 ∷ 0 ∷ 0 ∷ 0 ∷ 0 ∷ 0 ∷ 0 ∷ 0
    ∷ 0 ∷ 0 ∷ 0 ∷ 0 ∷ 0 ∷ 0 ∷ 0 ∷ 0
    ∷ 0 ∷ 0 ∷ 0 ∷ 0 ∷ 0 ∷ 0 ∷ 0 ∷ 0
    ∷ 0 ∷ 0 ∷ 0 ∷ 0 ∷ 0 ∷ 0 ∷ 0 ∷ 0
    ∷ 0 ∷ 0 ∷ 0 ∷ 0 ∷ 0 ∷ 0 ∷ 0 ∷ 0
    ∷ 0 ∷ 0 ∷ 0 ∷ 0 ∷ 0 ∷ 0 ∷ 0 ∷ 0
    ∷ 0 ∷ 0 ∷ 0 ∷ 0 ∷ 0 ∷ 0 ∷ 0 ∷ 0
    ∷ 1 ∷ 1 ∷ 1 ∷ 1 ∷ 1 ∷ 1 ∷ 1 ∷ 1
    ∷ 1 ∷ 1 ∷ 1 ∷ 1 ∷ 1 ∷ 1 ∷ 1 ∷ 1
    ∷ 1 ∷ 1 ∷ 1 ∷ 1 ∷ 1 ∷ 1 ∷ 1 ∷ 1
    ∷ 1 ∷ 1 ∷ 1 ∷ 1 ∷ 1 ∷ 1 ∷ 1 ∷ 1
    ∷ 1 ∷ 1 ∷ 1 ∷ 1 ∷ 1 ∷ 1 ∷ 1 ∷ 1
    ∷ 1 ∷ 1 ∷ 1 ∷ 1 ∷ 1 ∷ 1 ∷ 1 ∷ 1
    ∷ 1 ∷ 1 ∷ 1 ∷ 1 ∷ 1 ∷ 1 ∷ 1 ∷ 1
    ∷ 1 ∷ 1 ∷ 1 ∷ 1 ∷ 1 ∷ 1 ∷ 1 ∷ 1
    ∷ 0 ∷ 17 ∷ 257 ∷ 272 ∷ 4097 ∷ 4112 ∷ 4352 ∷ 4369
    ∷ 65537 ∷ 65552 ∷ 65792 ∷ 65809 ∷ 69632 ∷ 69649 ∷ 69889 ∷ 286261249
    ∷ 1048577 ∷ 1048592 ∷ 1048832 ∷ 1048849 ∷ 1052672 ∷ 1052689 ∷ 1052929 ∷ 285278209
    ∷ 1114112 ∷ 1114129 ∷ 1114369 ∷ 285216769 ∷ 1118209 ∷ 285212929 ∷ 285212689 ∷ 285212672
    ∷ 16777217 ∷ 16777232 ∷ 16777472 ∷ 16777489 ∷ 16781312 ∷ 16781329 ∷ 16781569 ∷ 269549569
    ∷ 16842752 ∷ 16842769 ∷ 16843009 ∷ 269488129 ∷ 16846849 ∷ 269484289 ∷ 269484049 ∷ 269484032
    ∷ 17825792 ∷ 17825809 ∷ 17826049 ∷ 268505089 ∷ 17829889 ∷ 268501249 ∷ 268501009 ∷ 268500992
    ∷ 17891329 ∷ 268439809 ∷ 268439569 ∷ 268439552 ∷ 268435729 ∷ 268435712 ∷ 268435472 ∷ 268435457
    ∷ 2 ∷ 1 ∷ 1 ∷ 16 ∷ 1 ∷ 16 ∷ 256 ∷ 273
    ∷ 1 ∷ 16 ∷ 256 ∷ 273 ∷ 4096 ∷ 4113 ∷ 4353 ∷ 17825793
    ∷ 1 ∷ 16 ∷ 256 ∷ 273 ∷ 4096 ∷ 4113 ∷ 4353 ∷ 16842753
    ∷ 65536 ∷ 65553 ∷ 65793 ∷ 16781313 ∷ 69633 ∷ 16777473 ∷ 16777233 ∷ 16777216
    ∷ 1 ∷ 16 ∷ 256 ∷ 273 ∷ 4096 ∷ 4113 ∷ 4353 ∷ 1114113
    ∷ 65536 ∷ 65553 ∷ 65793 ∷ 1052673 ∷ 69633 ∷ 1048833 ∷ 1048593 ∷ 1048576
    ∷ 1048576 ∷ 1048593 ∷ 1048833 ∷ 69633 ∷ 1052673 ∷ 65793 ∷ 65553 ∷ 65536
    ∷ 1114113 ∷ 4353 ∷ 4113 ∷ 4096 ∷ 273 ∷ 256 ∷ 16 ∷ 1
    ∷ 0 ∷ 0 ∷ 0 ∷ 0 ∷ 0 ∷ 0 ∷ 0 ∷ 0
    ∷ 0 ∷ 0 ∷ 0 ∷ 0 ∷ 0 ∷ 0 ∷ 0 ∷ 0
    ∷ 0 ∷ 0 ∷ 0 ∷ 0 ∷ 0 ∷ 0 ∷ 0 ∷ 0
    ∷ 0 ∷ 0 ∷ 0 ∷ 0 ∷ 0 ∷ 0 ∷ 0 ∷ 0
    ∷ 0 ∷ 0 ∷ 0 ∷ 0 ∷ 0 ∷ 0 ∷ 0 ∷ 0
    ∷ 0 ∷ 0 ∷ 0 ∷ 0 ∷ 0 ∷ 0 ∷ 0 ∷ 0
    ∷ 0 ∷ 0 ∷ 0 ∷ 0 ∷ 0 ∷ 0 ∷ 0 ∷ 0
    ∷ 0 ∷ 0 ∷ 0 ∷ 0 ∷ 0 ∷ 0 ∷ 0 ∷ 0
    ∷ 1 ∷ 1 ∷ 1 ∷ 1 ∷ 1 ∷ 1 ∷ 1 ∷ 1
    ∷ 1 ∷ 1 ∷ 1 ∷ 1 ∷ 1 ∷ 1 ∷ 1 ∷ 1
    ∷ 1 ∷ 1 ∷ 1 ∷ 1 ∷ 1 ∷ 1 ∷ 1 ∷ 1
    ∷ 1 ∷ 1 ∷ 1 ∷ 1 ∷ 1 ∷ 1 ∷ 1 ∷ 1
    ∷ 1 ∷ 1 ∷ 1 ∷ 1 ∷ 1 ∷ 1 ∷ 1 ∷ 1
    ∷ 1 ∷ 1 ∷ 1 ∷ 1 ∷ 1 ∷ 1 ∷ 1 ∷ 1
    ∷ 1 ∷ 1 ∷ 1 ∷ 1 ∷ 1 ∷ 1 ∷ 1 ∷ 1
    ∷ 1 ∷ 1 ∷ 1 ∷ 1 ∷ 1 ∷ 1 ∷ 1 ∷ 1 ∷ []

-- a bound of document 01, its cut read as one number with coordinate 0 most significant
abbrev pub closed_of : ℕ → List ℕ → Closed
closed_of cost cut = record { cost = cost; cut = lex_num 0 cut }

abbrev pub tables : Tables
tables =
    record {
      pre = prefixes;
      mid = middles;
      nxt = nexts;
      suf = suffixes;
      sets = middle_sets;
      ix = branch_entries;
      fb_byte = fallback_bytes;
      fb_key = fallback_keys;
      class0 = closed_of (bound_cost 0) (bound_cut 0);
      class1 = closed_of (bound_cost 1) (bound_cut 1);
      mixed = closed_of middle_cost middle_cut;
    }
