-- The numbers of the kinds of record, by the documents' names for what a record of the kind holds.
use Rattle.std.specs.Prelude.{ℕ}

-- document 01: "1 X; 2 Z (absent is 0); 3 block ..; 4 theta; 5 weight; 6 Φ; 7 sigma2; 8 β; 9 contrast; 10 β_H"
abbrev pub kind_x : ℕ
kind_x = 1

abbrev pub kind_z : ℕ
kind_z = 2

abbrev pub kind_block : ℕ
kind_block = 3

abbrev pub kind_theta : ℕ
kind_theta = 4

abbrev pub kind_weight : ℕ
kind_weight = 5

abbrev pub kind_phi : ℕ
kind_phi = 6

abbrev pub kind_sigma2 : ℕ
kind_sigma2 = 7

abbrev pub kind_beta : ℕ
kind_beta = 8

abbrev pub kind_contrast : ℕ
kind_contrast = 9

abbrev pub kind_beta_h : ℕ
kind_beta_h = 10

-- document 02, "Req 02": "kind 11 Φ, 12 Φ_A, 13 P (the count field is its index), 14 W", in response units
abbrev pub kind_scaled_phi : ℕ
kind_scaled_phi = 11

abbrev pub kind_scaled_phi_a : ℕ
kind_scaled_phi_a = 12

abbrev pub kind_scaled_p : ℕ
kind_scaled_p = 13

abbrev pub kind_w : ℕ
kind_w = 14

-- "Φ, Φ_A and P in residual units and sigma2 follow as kinds 15 to 18"
abbrev pub kind_archived_phi : ℕ
kind_archived_phi = 15

abbrev pub kind_archived_phi_a : ℕ
kind_archived_phi_a = 16

abbrev pub kind_archived_p : ℕ
kind_archived_p = 17

abbrev pub kind_archived_sigma2 : ℕ
kind_archived_sigma2 = 18

-- "Req 06": a lab's cutoff
abbrev pub kind_cutoff : ℕ
kind_cutoff = 20

-- "Req 07": what closes a series of a season
abbrev pub kind_closing : ℕ
kind_closing = 21

-- document 01: "30 v, 31 Jacobian (count its number, from 0) and 32 A"
abbrev pub kind_v : ℕ
kind_v = 30

abbrev pub kind_jacobian : ℕ
kind_jacobian = 31

abbrev pub kind_a : ℕ
kind_a = 32
